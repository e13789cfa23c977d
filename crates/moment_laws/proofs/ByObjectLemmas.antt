-- A moment is sound just where it is sound object by object.
use Rattle.std.proofs.Common.{◌≡◌, ℕ, ◌+◌, ◌<◌, ◌≤◌, Bool, refl, sym, subst, arith, inl, inr}
use Rattle.std.proofs.lemmas.Bool.{cases_eq, cases_lt}
use Rattle.geometry_model.specs.Numbers.{Numbers}
use Rattle.layout_model.specs.Layout.{Tree}
use Rattle.moment_model.specs.Moment.{Moment, absent_slot, object_slot, committed_uses, working_uses, all_committed, all_working, IsSound}
use Rattle.moment_laws.specs.ByObject.{IsSoundByObject}
use Rattle.moment_laws.proofs.SumLemmas.{part_within, two_within, sum_none, sum_once}

-- an absent object at rest uses no page
pub committed-absent_slot : (n : Numbers) (page : ℕ) → committed_uses n page absent_slot ≡ 0
committed-absent_slot n page = refl

pub working-absent_slot : (n : Numbers) (page : ℕ) → working_uses n page absent_slot ≡ 0
working-absent_slot n page = refl

-- what one object uses another doesn't
apart-counts : (c w c2 w2 all_c all_w : ℕ) → c + c2 ≤ all_c → all_c ≤ 1 → w + w2 ≤ all_w → all_w ≤ 1 →
    (0 < c → w2 ≡ 0) → (0 < c2 → w ≡ 0) → 0 < c + w → c2 + w2 ≡ 0
apart-counts c w c2 w2 all_c all_w cs c_once ws w_once left right some =
    elim (cases_lt 0 c) [
      | inl first ↦ let none = left first in omega (arith, none)
      | inr zero_first ↦
          elim (cases_lt 0 c2) [
            | inl second ↦ let none = right second in omega (arith, none)
            | inr zero_second ↦ omega arith
          ]
    ]

-- a part that counts makes the whole count
part_counts : (a b c : ℕ) → 0 < b → 0 < a + (c + b)
part_counts a b c some = omega arith

pub by_object-from_sound : (good : Numbers → Tree → Type 0) (n : Numbers) (held : ℕ → Bool) (moment : Moment) →
    IsSound good n held moment → IsSoundByObject good n held moment
by_object-from_sound good n held moment sound = record {
  alone = λ o. record {
    committed = (sound.kept o).committed;
    working = (sound.kept o).working;
    committed_once = λ page.
        let part = part_within (committed_uses n page) absent_slot (committed-absent_slot n page) moment o in
        let once = sound.committed_once page in
        omega (arith, part, once);
    working_once = λ page.
        let part = part_within (working_uses n page) absent_slot (working-absent_slot n page) moment o in
        let once = sound.working_once page in
        omega (arith, part, once);
    spare_apart = λ page some.
        let part = part_within (committed_uses n page) absent_slot (committed-absent_slot n page) moment o in
        let none = sound.spare_apart o page some in
        omega (arith, part, none);
  };
  apart = λ o other page differ some.
      apart-counts (committed_uses n page (object_slot moment o)) (working_uses n page (object_slot moment o))
      (committed_uses n page (object_slot moment other)) (working_uses n page (object_slot moment other))
      (all_committed n page moment) (all_working n page moment)
      (two_within (committed_uses n page) absent_slot (committed-absent_slot n page) moment o other differ) (sound.committed_once page)
      (two_within (working_uses n page) absent_slot (working-absent_slot n page) moment o other differ) (sound.working_once page)
      (sound.apart o other page differ) (sound.apart other o page (λ same. differ (sym same))) some;
  rests = sound.rests;
}

pub sound-from_by_object : (good : Numbers → Tree → Type 0) (n : Numbers) (held : ℕ → Bool) (moment : Moment) →
    IsSoundByObject good n held moment → IsSound good n held moment
sound-from_by_object good n held moment sound = record {
  kept = λ o. record { committed = (sound.alone o).committed; working = (sound.alone o).working };
  committed_once = λ page. sum_once (committed_uses n page) absent_slot moment (λ o. (sound.alone o).committed_once page)
      (λ o other differ some.
      let none = sound.apart o other page differ (omega (arith, some)) in
      omega (arith, none));
  working_once = λ page. sum_once (working_uses n page) absent_slot moment (λ o. (sound.alone o).working_once page)
      (λ o other differ some.
      let none = sound.apart o other page differ (omega (arith, some)) in
      omega (arith, none));
  apart = λ o other page differ some.
      let none = sound.apart o other page differ (omega (arith, some)) in
      omega (arith, none);
  spare_apart = λ o page some. sum_none (committed_uses n page) absent_slot moment (λ q.
      elim (cases_eq o q) [
        | inl same ↦ subst (λ (k : ℕ). committed_uses n page (object_slot moment k) ≡ 0) same ((sound.alone o).spare_apart page some)
        | inr differ ↦
            let none = sound.apart o q page differ (omega (arith, some)) in
            omega (arith, none)
      ]);
  rests = sound.rests;
}
