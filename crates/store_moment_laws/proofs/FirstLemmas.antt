-- A moment of absent objects: no page is used, so all is sound and free.
use Rattle.std.proofs.Common.{◌≡◌, ℕ, ◌<◌, ◌≤◌, Bool, true, false, replicate, length, refl, sym, ap, subst, arith, ◌∙◌, inl, inr}
use Rattle.std.specs.Prelude.{nat_eq, nat_lt, ◌&&◌}
use Rattle.std.proofs.lemmas.Bool.{cases_lt}
use Rattle.std.proofs.lemmas.List.{get_or-replicate, get_or_past, length-replicate}
use Rattle.geometry_model.specs.Numbers.{Numbers}
use Rattle.layout_model.specs.Layout.{Tree}
use Rattle.moment_model.specs.Version.{IsGoodVersion, spare_uses}
use Rattle.moment_model.specs.Moment.{ObjectSlot, Moment, absent_slot, object_slot, committed_uses, working_uses}
use Rattle.moment_model.specs.Moment.{all_committed, all_working, is_free, is_locked, IsAllAbsent, IsKept, IsAtRest}
use Rattle.moment_model.specs.Moment.{IsSound}
use Rattle.moment_laws.proofs.SumLemmas.{sum_none}
use Rattle.change_laws.specs.Tail.{IsTail, HaveTails}

pub fresh-absent : (objects : ℕ) → IsAllAbsent (replicate objects absent_slot)
fresh-absent objects o =
    elim (cases_lt o objects) [
      | inl within ↦ get_or-replicate objects o absent_slot absent_slot within
      | inr past ↦
          let count = length-replicate objects absent_slot in
          get_or_past (replicate objects absent_slot) o absent_slot (omega (arith, count, past))
    ]

-- nothing uses a page
no_committed : (n : Numbers) (moment : Moment) → IsAllAbsent moment → (page : ℕ) → all_committed n page moment ≡ 0
no_committed n moment absent page = sum_none (committed_uses n page) absent_slot moment (λ o. ap (committed_uses n page) (absent o))

no_working : (n : Numbers) (moment : Moment) → IsAllAbsent moment → (page : ℕ) → all_working n page moment ≡ 0
no_working n moment absent page = sum_none (working_uses n page) absent_slot moment (λ o. ap (working_uses n page) (absent o))

absent-kept : (good : Numbers → Tree → Type 0) (n : Numbers) → IsKept good n absent_slot
absent-kept good n = record { committed = tt; working = tt }

absent-rests : IsAtRest absent_slot
absent-rests = record { same = refl; no_spare = refl }

pub absent-sound : (good : Numbers → Tree → Type 0) (n : Numbers) (held : ℕ → Bool) (moment : Moment) →
    IsAllAbsent moment → IsSound good n held moment
absent-sound good n held moment absent = record {
  kept = λ o. subst (IsKept good n) (sym (absent o)) (absent-kept good n);
  committed_once = λ page. let none = no_committed n moment absent page in omega (arith, none);
  working_once = λ page. let none = no_working n moment absent page in omega (arith, none);
  apart = λ o other page differ some. ap (working_uses n page) (absent other);
  spare_apart = λ o page some. no_committed n moment absent page;
  rests = λ o free. subst IsAtRest (sym (absent o)) absent-rests;
}

pub absent-tails : (n : Numbers) (moment : Moment) → IsAllAbsent moment → HaveTails n moment
absent-tails n moment absent o = subst (λ (s : ObjectSlot). IsTail n s.working s.spare) (sym (absent o)) tt

pub absent-free : (n : Numbers) (moment : Moment) → IsAllAbsent moment → (page : ℕ) → is_free n page moment ≡ true
absent-free n moment absent page =
    ap (λ k. nat_eq k 0 && nat_eq (all_working n page moment) 0) (no_committed n moment absent page)
    ∙ ap (λ k. nat_eq 0 0 && nat_eq k 0) (no_working n moment absent page)

pub absent-locked : (n : Numbers) (moment : Moment) → IsAllAbsent moment → (page : ℕ) → is_locked n page moment ≡ false
absent-locked n moment absent page =
    ap (λ k. nat_lt 0 k && nat_eq (all_working n page moment) 0) (no_committed n moment absent page)
