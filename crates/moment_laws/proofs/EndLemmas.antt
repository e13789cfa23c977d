-- The end of a transaction: objects that are settled or put back keep the moment sound, and are at rest.
use Rattle.std.proofs.Common.{◌≡◌, ℕ, zero, suc, ◌+◌, ◌<◌, Bool, true, false, ◌&&◌, ◌||◌, not, List, [], ◌∷◌, refl}
use Rattle.std.proofs.Common.{sym, ap, subst, arith, ◌∙◌, ◌⊎◌, inl, inr, length, nat_eq, get_or-set_same}
use Rattle.std.proofs.Common.{get_or-set_other}
use Rattle.std.proofs.lemmas.List.{set_past, get_or_past}
use Rattle.std.proofs.lemmas.Bool.{cases_Bool, cases_lt, cases_eq, eq-eqb, ne_eqb, false≢true, cond-true}
use Rattle.std.proofs.lemmas.Bool.{cond-false, and_cases, and_from, not-false}
use Rattle.geometry_model.specs.Numbers.{Numbers}
use Rattle.history.specs.Event.{Event}
use Rattle.history.specs.Holding.{holds, some_upto}
use Rattle.layout_model.specs.Layout.{Tree}
use Rattle.moment_model.specs.Moment.{ObjectSlot, Moment, absent_slot, object_slot, with_object_slot, either_uses, IsAtRest, IsSound}
use Rattle.moment_model.specs.Edit.{settled, undone}
use Rattle.moment_model.specs.Run.{changed_where, all_aborted}
use Rattle.moment_laws.specs.ByObject.{IsSoundSlot, IsSoundByObject}
use Rattle.moment_laws.specs.Change.{held_without}
use Rattle.moment_laws.proofs.ByObjectLemmas.{by_object-from_sound, sound-from_by_object}

-- a slot after a change of those that a test names is changed, or as it was
pub changed-cases : (test : ℕ → Bool) (change : ObjectSlot → ObjectSlot) → change absent_slot ≡ absent_slot →
    (from : ℕ) (moment : Moment) (o k : ℕ) → k ≡ from + o →
    ((test k ≡ true) × (object_slot (changed_where test change from moment) o ≡ change (object_slot moment o)))
    ⊎ ((test k ≡ false) × (object_slot (changed_where test change from moment) o ≡ object_slot moment o))
changed-cases test change none from [] o k at =
    elim (cases_Bool (test k)) [
      | inl hit ↦ inl (hit, sym none)
      | inr miss ↦ inr (miss, refl)
    ]
changed-cases test change none from (slot ∷ rest) zero k at =
    let here : k ≡ from = omega (arith, at) in
    elim (cases_Bool (test k)) [
      | inl hit ↦ inl (hit, cond-true (test from) (change slot) slot (ap test (sym here) ∙ hit))
      | inr miss ↦ inr (miss, cond-false (test from) (change slot) slot (ap test (sym here) ∙ miss))
    ]
changed-cases test change none from (slot ∷ rest) (suc o) k at = changed-cases test change none (suc from) rest o k (omega (arith, at))

-- what the end of a transaction does to an object that it held
record Ends (good : Numbers → Tree → Type 0) (n : Numbers) (change : ObjectSlot → ObjectSlot) : Type 0 where
  none : change absent_slot ≡ absent_slot
  alone : (slot : ObjectSlot) → IsSoundSlot good n slot → IsSoundSlot good n (change slot)
  uses : (slot : ObjectSlot) (page : ℕ) → 0 < either_uses n page (change slot) → 0 < either_uses n page slot
  rests : (slot : ObjectSlot) → IsAtRest (change slot)

settled-ends : (good : Numbers → Tree → Type 0) (n : Numbers) → Ends good n settled
settled-ends good n = record {
  none = refl;
  alone = λ slot sound. record {
    committed = sound.working;
    working = sound.working;
    committed_once = λ page. let once = sound.working_once page in omega (arith, once);
    working_once = λ page. let once = sound.working_once page in omega (arith, once);
    spare_apart = λ page some. absurd (omega (arith, some));
  };
  uses = λ slot page some. omega (arith, some);
  rests = λ slot. record { same = refl; no_spare = refl };
}

undone-ends : (good : Numbers → Tree → Type 0) (n : Numbers) → Ends good n undone
undone-ends good n = record {
  none = refl;
  alone = λ slot sound. record {
    committed = sound.committed;
    working = sound.committed;
    committed_once = sound.committed_once;
    working_once = λ page. let once = sound.committed_once page in omega (arith, once);
    spare_apart = λ page some. absurd (omega (arith, some));
  };
  uses = λ slot page some. omega (arith, some);
  rests = λ slot. record { same = refl; no_spare = refl };
}

-- each slot is changed where the test holds, and else as it was
abbrev Changed : (ℕ → Bool) → (ObjectSlot → ObjectSlot) → Moment → Moment → Type 0
Changed test change moment later = (o : ℕ) →
    ((test o ≡ true) × (object_slot later o ≡ change (object_slot moment o)))
    ⊎ ((test o ≡ false) × (object_slot later o ≡ object_slot moment o))

-- objects that come to their end together
ended_by_object : (good : Numbers → Tree → Type 0) (n : Numbers) (held test : ℕ → Bool)
    (change : ObjectSlot → ObjectSlot) (moment later : Moment) → Ends good n change →
    Changed test change moment later → IsSoundByObject good n held moment → IsSoundByObject good n (held_without held test) later
ended_by_object good n held test change moment later ends cases sound =
    let shrinks : (o page : ℕ) → 0 < either_uses n page (object_slot later o) → 0 < either_uses n page (object_slot moment o) =
    λ o page. elim (cases o) [
      | inl new ↦ subst (λ (s : ObjectSlot). 0 < either_uses n page s →
          0 < either_uses n page (object_slot moment o)) (sym new.1) (ends.uses (object_slot moment o) page)
      | inr old ↦ subst (λ (s : ObjectSlot). 0 < either_uses n page s →
          0 < either_uses n page (object_slot moment o)) (sym old.1) (λ some. some)
    ] in
    record {
      alone = λ o. elim (cases o) [
        | inl new ↦ subst (IsSoundSlot good n) (sym new.1) (ends.alone (object_slot moment o) (sound.alone o))
        | inr old ↦ subst (IsSoundSlot good n) (sym old.1) (sound.alone o)
      ];
      apart = λ o other page differ some.
          let none = sound.apart o other page differ (shrinks o page some) in
          elim (cases_lt 0 (either_uses n page (object_slot later other))) [
            | inl new ↦ let old = shrinks other page new in absurd (omega (arith, none, old))
            | inr gone ↦ omega (arith, gone)
          ];
      rests = λ o let_go. elim (cases o) [
        | inl new ↦ subst IsAtRest (sym new.1) (ends.rests (object_slot moment o))
        | inr old ↦ subst IsAtRest (sym old.1) (sound.rests o
            (elim (and_cases (held o) (not (test o)) let_go) [
              | inl free ↦ free
              | inr tested ↦ absurd (false≢true (sym old.0 ∙ not-false (test o) tested))
            ]))
      ];
    }

sound-ended : (good : Numbers → Tree → Type 0) (n : Numbers) (held test : ℕ → Bool)
    (change : ObjectSlot → ObjectSlot) (moment later : Moment) → Ends good n change →
    Changed test change moment later → IsSound good n held moment → IsSound good n (held_without held test) later
sound-ended good n held test change moment later ends cases sound =
    sound-from_by_object good n (held_without held test) later
    (ended_by_object good n held test change moment later ends cases (by_object-from_sound good n held moment sound))

-- those that a test names
all-changed : (test : ℕ → Bool) (change : ObjectSlot → ObjectSlot) (moment : Moment) →
    change absent_slot ≡ absent_slot → Changed test change moment (changed_where test change 0 moment)
all-changed test change moment none o = changed-cases test change none 0 moment o o (omega arith)

-- one alone
one-changed : (o : ℕ) (change : ObjectSlot → ObjectSlot) (moment : Moment) → change absent_slot ≡ absent_slot →
    Changed (λ q. nat_eq q o) change moment (with_object_slot moment o (change (object_slot moment o)))
one-changed o change moment none q =
    let after = change (object_slot moment o) in
    elim (cases_eq q o) [
      | inr differ ↦ inr (ne_eqb q o differ, get_or-set_other moment o q after absent_slot differ)
      | inl same ↦
          inl (
            eq-eqb q o same,
            elim (cases_lt o (length moment)) [
              | inl within ↦
                  subst (λ (k : ℕ). object_slot (with_object_slot moment o after) k ≡ change (object_slot moment k))
                  (sym same) (get_or-set_same moment o after absent_slot within)
              | inr past ↦
                  let nobody : object_slot moment q ≡ absent_slot = get_or_past moment q absent_slot (omega (arith, past, same)) in
                  let P : Moment → Type 0 = λ m. object_slot m q ≡ change (object_slot moment q) in
                  subst P (sym (set_past moment o after past)) (nobody ∙ sym (ap change nobody ∙ none))
            ],
          )
    ]

pub sound-settled : (good : Numbers → Tree → Type 0) (n : Numbers) (held test : ℕ → Bool) (moment : Moment) → IsSound good n held moment →
    IsSound good n (held_without held test) (changed_where test settled 0 moment)
sound-settled good n held test moment sound = sound-ended good n held test settled moment (changed_where test settled 0 moment)
    (settled-ends good n) (all-changed test settled moment refl) sound

pub sound-settled_one : (good : Numbers → Tree → Type 0) (n : Numbers) (held : ℕ → Bool) (moment : Moment) (o : ℕ) →
    IsSound good n held moment →
    IsSound good n (held_without held (λ q. nat_eq q o)) (with_object_slot moment o (settled (object_slot moment o)))
sound-settled_one good n held moment o sound =
    sound-ended good n held (λ q. nat_eq q o) settled moment
    (with_object_slot moment o (settled (object_slot moment o)))
    (settled-ends good n) (one-changed o settled moment refl) sound

pub sound-undone : (good : Numbers → Tree → Type 0) (n : Numbers) (held test : ℕ → Bool) (moment : Moment) → IsSound good n held moment →
    IsSound good n (held_without held test) (changed_where test undone 0 moment)
sound-undone good n held test moment sound = sound-ended good n held test undone moment (changed_where test undone 0 moment)
    (undone-ends good n) (all-changed test undone moment refl) sound

pub sound-undone_one : (good : Numbers → Tree → Type 0) (n : Numbers) (held : ℕ → Bool) (moment : Moment) (o : ℕ) →
    IsSound good n held moment →
    IsSound good n (held_without held (λ q. nat_eq q o)) (with_object_slot moment o (undone (object_slot moment o)))
sound-undone_one good n held moment o sound =
    sound-ended good n held (λ q. nat_eq q o) undone moment
    (with_object_slot moment o (undone (object_slot moment o)))
    (undone-ends good n) (one-changed o undone moment refl) sound

-- where more is held the moment stays sound
pub sound-held_more : (good : Numbers → Tree → Type 0) (n : Numbers) (held more : ℕ → Bool) (moment : Moment) →
    ((o : ℕ) → held o ≡ true → more o ≡ true) →
    IsSound good n held moment → IsSound good n more moment
sound-held_more good n held more moment wider sound = record {
  kept = sound.kept;
  committed_once = sound.committed_once;
  working_once = sound.working_once;
  apart = sound.apart;
  spare_apart = sound.spare_apart;
  rests = λ o let_go. elim (cases_Bool (held o)) [
    | inl holds_it ↦ absurd (false≢true (sym let_go ∙ wider o holds_it))
    | inr free ↦ sound.rests o free
  ];
}

-- two tests one after the other are both at once
twice_without : (held one other : Bool) → ((held && not one) && not other) ≡ true → (held && not (other || one)) ≡ true
twice_without true false false still = refl
twice_without true false true still = still
twice_without true true other still = cc
twice_without false one other still = cc

-- the end of a script: what is still open is aborted
pub sound-all_aborted : (good : Numbers → Tree → Type 0) (n : Numbers) (held : ℕ → Bool) (sessions : ℕ)
    (past : List Event) (moment : Moment) → IsSound good n held moment →
    IsSound good n (held_without held (λ o. some_upto sessions (λ s. holds s o past))) (all_aborted sessions past moment)
sound-all_aborted good n held zero past moment sound =
    sound-held_more good n held (held_without held (λ o. false)) moment (λ o holds_it. and_from (held o) true holds_it refl) sound
sound-all_aborted good n held (suc sessions) past moment sound =
    let before = sound-all_aborted good n held sessions past moment sound in
    let test = λ (o : ℕ). holds (suc sessions) o past in
    let earlier = held_without held (λ (o : ℕ). some_upto sessions (λ s. holds s o past)) in
    sound-held_more good n (held_without earlier test) (held_without held (λ o. some_upto (suc sessions) (λ s. holds s o past)))
    (all_aborted (suc sessions) past moment)
    (λ o. twice_without (held o) (some_upto sessions (λ s. holds s o past)) (holds (suc sessions) o past))
    (sound-undone good n earlier test (all_aborted sessions past moment) before)
