-- The objects that a transaction holds, one by one.
use Rattle.std.proofs.Common.{◌≡◌, ◌≢◌, ℕ, suc, ◌+◌, ◌<◌, ◌≤◌, List, [], ◌∷◌, ◌++◌, length, Bool, true, false}
use Rattle.std.proofs.Common.{nat_eq, Option, Some, None, is_some, ◌⊎◌, if◌then◌else◌, refl, ap, sym, ◌∙◌, subst}
use Rattle.std.proofs.Common.{arith, inl, inr}
use Rattle.std.proofs.lemmas.Bool.{cases_Bool, cases_eq, eqb-true, eq-eqb, ne_eqb}
use Rattle.history.specs.Holding.{count_below}
use Rattle.shadow_txn.specs.declared.held.Held.{Held}
use Rattle.shadow_txn.specs.Held.{held_object, with_object, without_held, AreDistinct}
use Rattle.shadow_txn.specs.Transaction.{greatest_last}
use Rattle.shadow_txn.proofs.HeldLemmas.{held_object-append, held_object-append_some, held_object-self, held_object-one}
use Rattle.world.proofs.Counts.{count_below-none, count_below-more}

-- what is found in a list is its first one, or in the rest
found-cases : {T : Type 0} (b : Bool) (x y : T) (rest : Option T) → (if b then Some x else rest) ≡ Some y →
    ((b ≡ true) × (x ≡ y)) ⊎ ((b ≡ false) × (rest ≡ Some y))
found-cases true x y rest found = inl (refl, cc)
found-cases false x y rest found = inr (refl, found)

none-cases : {T : Type 0} (b : Bool) (x : T) (rest : Option T) → (if b then Some x else rest) ≡ None → (b ≡ false) × (rest ≡ None)
none-cases true x rest none = absurd cc
none-cases false x rest none = (refl, none)

-- the other value is found in place of the one that was
pub held_object-with_same : {T : Type 0} (o : ℕ) (x y : T) (held : List (Held T)) → held_object o held ≡ Some x →
    held_object o (with_object o y held) ≡ Some y
held_object-with_same o x y [] found = absurd cc
held_object-with_same o x y (k ∷ held) found = elim (found-cases (nat_eq k.number o) k.object x (held_object o held) found) [
  | inl here ↦ let at : nat_eq k.number o ≡ true = here.0 in rw at (rw at refl)
  | inr there ↦ let at : nat_eq k.number o ≡ false = there.0 in rw at (rw at (held_object-with_same o x y held there.1))
]

-- and no other object has changed
pub held_object-with_other : {T : Type 0} (o p : ℕ) (y : T) (held : List (Held T)) → p ≢ o →
    held_object p (with_object o y held) ≡ held_object p held
held_object-with_other o p y [] other = refl
held_object-with_other o p y (k ∷ held) other = elim (cases_Bool (nat_eq k.number o)) [
  | inl here ↦
      let apart : nat_eq k.number p ≡ false = ne_eqb k.number p (λ e. other (sym e ∙ eqb-true k.number o here)) in
      rw here (rw apart refl)
  | inr away ↦ rw away (ap (λ found. if nat_eq k.number p then Some k.object else found) (held_object-with_other o p y held other))
]

-- with the value that it has the list is as before
pub with_object-same : {T : Type 0} (o : ℕ) (x : T) (held : List (Held T)) → held_object o held ≡ Some x → with_object o x held ≡ held
with_object-same o x [] found = absurd cc
with_object-same o x (k ∷ held) found = elim (found-cases (nat_eq k.number o) k.object x (held_object o held) found) [
  | inl here ↦ let at : nat_eq k.number o ≡ true = here.0 in
      rw at (ap (λ object. record { number = k.number; object = object; acts = k.acts } ∷ held) (sym here.1))
  | inr there ↦ let at : nat_eq k.number o ≡ false = there.0 in rw at (ap (λ rest. k ∷ rest) (with_object-same o x held there.1))
]

pub length-with_object : {T : Type 0} (o : ℕ) (x : T) (held : List (Held T)) → length (with_object o x held) ≡ length held
length-with_object o x [] = refl
length-with_object o x (k ∷ held) = elim (cases_Bool (nat_eq k.number o)) [
  | inl here ↦ rw here refl
  | inr away ↦ rw away (ap suc (length-with_object o x held))
]

-- one object more, which wasn't held
pub held_object-more_same : {T : Type 0} (o : ℕ) (x : T) (held : List (Held T)) → held_object o held ≡ None →
    held_object o (held ++ record { number = o; object = x; acts = [] } ∷ []) ≡ Some x
held_object-more_same o x held none = held_object-append o held (record { number = o; object = x; acts = [] }
    ∷ []) none ∙ held_object-self (record { number = o; object = x; acts = [] })

more-other : {T : Type 0} (p : ℕ) (h : Held T) (held : List (Held T)) (found : Option T) →
    held_object p held ≡ found → h.number ≢ p → held_object p (held ++ h ∷ []) ≡ found
more-other p h held None is other = held_object-append p held (h ∷ []) is ∙ held_object-one p h other
more-other p h held (Some x) is other = held_object-append_some p held (h ∷ []) x is

pub held_object-more_other : {T : Type 0} (o p : ℕ) (x : T) (held : List (Held T)) → p ≢ o →
    held_object p (held ++ record { number = o; object = x; acts = [] } ∷ []) ≡ held_object p held
held_object-more_other o p x held other =
    more-other p (record { number = o; object = x; acts = [] }) held (held_object p held) refl (λ e. other (sym e))

-- an object that was added last, and is taken away again
pub without_held-more : {T : Type 0} (o : ℕ) (x : T) (held : List (Held T)) → held_object o held ≡ None →
    without_held o (held ++ record { number = o; object = x; acts = [] } ∷ []) ≡ held
without_held-more o x [] none = let at : nat_eq o o ≡ true = eq-eqb o o refl in rw at refl
without_held-more o x (k ∷ held) none =
    let away = none-cases (nat_eq k.number o) k.object (held_object o held) none in
    let at : nat_eq k.number o ≡ false = away.0 in
    rw at (ap (λ rest. k ∷ rest) (without_held-more o x held away.1))

-- a list of distinct objects below n has as many as there are numbers at which one is found
pub length-held : {T : Type 0} (n : ℕ) (held : List (Held T)) → AreDistinct held → ((o : ℕ) (x : T) → held_object o held ≡ Some x → o < n)
    → length held ≡ count_below n (λ o. is_some (held_object o held))
length-held n [] apart within = sym (count_below-none n (λ o. false) (λ k h. refl))
length-held n (k ∷ held) apart within =
    let here : nat_eq k.number k.number ≡ true = eq-eqb k.number k.number refl in
    let own : held_object k.number (k ∷ held) ≡ Some k.object = rw here refl in
    let rest : length held ≡ count_below n (λ o. is_some (held_object o held)) =
    length-held n held apart.1 (λ o x found. elim (cases_Bool (nat_eq k.number o)) [
      | inl at ↦ let same : k.number ≡ o = eqb-true k.number o at in subst (λ p. p < n) same (within k.number k.object own)
      | inr away ↦ within o x (rw away found)
    ]) in
    let more : count_below n (λ o. is_some (held_object o (k ∷ held))) ≡ count_below n (λ o. is_some (held_object o held)) + 1 =
    count_below-more n k.number (λ o. is_some (held_object o held)) (λ o. is_some (held_object o (k ∷ held))) (within k.number k.object own)
    (ap is_some apart.0) (ap is_some own)
    (λ p other. let apart_at : nat_eq k.number p ≡ false = ne_eqb k.number p (λ e. other (sym e)) in rw apart_at refl) in
    omega (arith, rest, more)

-- the greatest last stamp bounds that of each held object
pub greatest_last-bound : {T : Type 0} (last : T → ℕ) (held : List (Held T)) (o : ℕ) (x : T) →
    held_object o held ≡ Some x → last x ≤ greatest_last last held
greatest_last-bound last [] o x found = absurd cc
greatest_last-bound last (k ∷ held) o x found = elim (found-cases (nat_eq k.number o) k.object x (held_object o held) found) [
  | inl here ↦ let same : last k.object ≡ last x = ap last here.1 in omega (arith, same)
  | inr there ↦ let below : last x ≤ greatest_last last held = greatest_last-bound last held o x there.1 in omega (arith, below)
]

-- and is the least such number
pub greatest_last-least : {T : Type 0} (last : T → ℕ) (held : List (Held T)) (bound : ℕ) → AreDistinct held
    → ((o : ℕ) (x : T) → held_object o held ≡ Some x → last x ≤ bound) → greatest_last last held ≤ bound
greatest_last-least last [] bound apart all = omega arith
greatest_last-least last (k ∷ held) bound apart all =
    let here : nat_eq k.number k.number ≡ true = eq-eqb k.number k.number refl in
    let first : last k.object ≤ bound = all k.number k.object (rw here refl) in
    let rest : greatest_last last held ≤ bound = greatest_last-least last held bound apart.1 (λ o x found. elim (cases_eq k.number o) [
      | inl same ↦ let lost : held_object k.number held ≡ Some x = subst (λ p. held_object p held ≡ Some x) (sym same) found in absurd cc
      | inr other ↦ let away : nat_eq k.number o ≡ false = ne_eqb k.number o other in all o x (rw away found)
    ]) in
    omega (arith, first, rest)
