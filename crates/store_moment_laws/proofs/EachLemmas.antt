-- Objects that change together change one by one.
use Rattle.std.proofs.Common.{◌≡◌, ◌≢◌, ℕ, zero, suc, ◌+◌, ◌<◌, ◌≤◌, Bool, true, false, List, [], ◌∷◌, length, refl}
use Rattle.std.proofs.Common.{sym, ap, subst, arith, ◌∙◌, ◌⊎◌, inl, inr, get_or-set_same, get_or-set_other}
use Rattle.std.specs.List.{Contains}
use Rattle.std.specs.Prelude.{◌↔◌, slice_index_or, if◌then◌else◌}
use Rattle.std.proofs.lemmas.Bool.{cases_Bool, cases_eq, cases_lt, false≢true}
use Rattle.std.proofs.lemmas.List.{length-set, same_lists, get_or_default}
use Rattle.moment_model.specs.Moment.{ObjectSlot, Moment, absent_slot, object_slot, with_object_slot}
use Rattle.moment_model.specs.Edit.{settled, undone}
use Rattle.moment_model.specs.Run.{changed_where}
use Rattle.moment_laws.proofs.EndLemmas.{changed-cases}
use Rattle.soundness_laws.proofs.RunLemmas.{changed-length}
use Rattle.store_moment_laws.specs.Each.{changed_each, AreThose}

-- ---- elements

empty_list : (o : ℕ) → Contains [] o → ⊥
empty_list o has = let within = has.1 in omega (arith, within)

head_in : (o : ℕ) (rest : List ℕ) → Contains (o ∷ rest) o
head_in o rest = (0, omega arith, refl)

tail_in : (first o : ℕ) (rest : List ℕ) → Contains rest o → Contains (first ∷ rest) o
tail_in first o rest has = let within = has.1 in (suc has.0, omega (arith, within), has.2)

either_in : (first o : ℕ) (rest : List ℕ) → Contains (first ∷ rest) o → (first ≡ o) ⊎ Contains rest o
either_in first o rest has = go has.0 has.1 has.2
  where
    go : (k : ℕ) → k < length (first ∷ rest) → slice_index_or (first ∷ rest) k o ≡ o → (first ≡ o) ⊎ Contains rest o
    go zero within is = inl is
    go (suc k) within is = inr (k, omega (arith, within), is)

-- ---- lengths

pub each-length : (change : ObjectSlot → ObjectSlot) (objects : List ℕ) (moment : Moment) →
    length (changed_each change objects moment) ≡ length moment
each-length change [] moment = refl
each-length change (o ∷ rest) moment =
    each-length change rest (with_object_slot moment o (change (object_slot moment o)))
    ∙ length-set moment o (change (object_slot moment o))

-- ---- each slot

-- an object of the list is changed, another one isn't
pub each-cases : (change : ObjectSlot → ObjectSlot) → ((slot : ObjectSlot) → change (change slot) ≡ change slot) →
    (objects : List ℕ) (moment : Moment) (q : ℕ) → q < length moment →
    (Contains objects q × (object_slot (changed_each change objects moment) q ≡ change (object_slot moment q)))
    ⊎ ((Contains objects q → ⊥) × (object_slot (changed_each change objects moment) q ≡ object_slot moment q))
each-cases change once [] moment q within = inr (empty_list q, refl)
each-cases change once (o ∷ rest) moment q within =
    let after = with_object_slot moment o (change (object_slot moment o)) in
    let count = length-set moment o (change (object_slot moment o)) in
    let still : q < length after = omega (arith, count, within) in
    elim (cases_eq o q) [
      | inl same ↦
          let here : object_slot after q ≡ change (object_slot moment q) =
          subst (λ (k : ℕ). object_slot (with_object_slot moment k (change (object_slot moment k))) q
          ≡ change (object_slot moment q)) (sym same)
          (get_or-set_same moment q (change (object_slot moment q)) absent_slot within) in
          let has : Contains (o ∷ rest) q = subst (λ (k : ℕ). Contains (o ∷ rest) k) same (head_in o rest) in
          elim (each-cases change once rest after q still) [
            | inl more ↦ inl (has, more.1 ∙ (ap change here ∙ once (object_slot moment q)))
            | inr no_more ↦ inl (has, no_more.1 ∙ here)
          ]
      | inr differ ↦
          let here : object_slot after q ≡ object_slot moment q =
          get_or-set_other moment o q (change (object_slot moment o)) absent_slot (λ same. differ (sym same)) in
          elim (each-cases change once rest after q still) [
            | inl more ↦ inl (tail_in o q rest more.0, more.1 ∙ ap change here)
            | inr no_more ↦
                inr (
                  λ has. elim (either_in o q rest has) [
                    | inl first ↦ differ first
                    | inr later ↦ no_more.0 later
                  ],
                  no_more.1 ∙ here,
                )
          ]
    ]

-- the same slot either way
each-slot : (test : ℕ → Bool) (change : ObjectSlot → ObjectSlot) → change absent_slot ≡ absent_slot →
    ((slot : ObjectSlot) → change (change slot) ≡ change slot) →
    (moment : Moment) (objects : List ℕ) → AreThose test moment objects → (q : ℕ) → q < length moment →
    object_slot (changed_where test change 0 moment) q ≡ object_slot (changed_each change objects moment) q
each-slot test change none once moment objects those q within =
    elim (changed-cases test change none 0 moment q q (omega arith)) [
      | inl hit ↦
          elim (each-cases change once objects moment q within) [
            | inl found ↦ hit.1 ∙ sym found.1
            | inr lost ↦ absurd (lost.0 ((those q within).0 hit.0))
          ]
      | inr miss ↦
          elim (each-cases change once objects moment q within) [
            | inl found ↦ absurd (false≢true (sym miss.0 ∙ (those q within).1 found.0))
            | inr lost ↦ miss.1 ∙ sym lost.1
          ]
    ]

pub where-each : (test : ℕ → Bool) (change : ObjectSlot → ObjectSlot) → change absent_slot ≡ absent_slot →
    ((slot : ObjectSlot) → change (change slot) ≡ change slot) →
    (moment : Moment) (objects : List ℕ) → AreThose test moment objects →
    changed_where test change 0 moment ≡ changed_each change objects moment
where-each test change none once moment objects those =
    let left = changed-length test change 0 moment in
    let right = each-length change objects moment in
    same_lists (changed_where test change 0 moment) (changed_each change objects moment) (left ∙ sym right)
    (λ k d within.
    let inside : k < length moment = omega (arith, left, within) in
    get_or_default (changed_where test change 0 moment) k d absent_slot within
    ∙ (each-slot test change none once moment objects those k inside
    ∙ sym (get_or_default (changed_each change objects moment) k d absent_slot (omega (arith, right, inside)))))

pub settled-each : (test : ℕ → Bool) (moment : Moment) (objects : List ℕ) → AreThose test moment objects →
    changed_where test settled 0 moment ≡ changed_each settled objects moment
settled-each test moment objects those = where-each test settled refl (λ slot. refl) moment objects those

pub undone-each : (test : ℕ → Bool) (moment : Moment) (objects : List ℕ) → AreThose test moment objects →
    changed_where test undone 0 moment ≡ changed_each undone objects moment
undone-each test moment objects those = where-each test undone refl (λ slot. refl) moment objects those
