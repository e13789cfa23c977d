-- Held objects by number and by place.
use Rattle.std.proofs.Common.{◌≡◌, append-nil, ◌≢◌, ℕ, zero, suc, ◌+◌, ◌<◌, ◌≤◌, ⊎_elim, List, [], ◌∷◌, ◌++◌}
use Rattle.std.proofs.Common.{length, take, Bool, true, false, refl, ap, sym, ◌∙◌, eq-eqb, inl, inr, arith}
use Rattle.std.proofs.Common.{slice_get, slice_set, slice_index_or, nat_eq, Option, Some, None, if◌then◌else◌}
use Rattle.std.specs.Prelude.{remove, ◌==◌, ◌⊎◌, All}
use Rattle.std.proofs.lemmas.Bool.{ne_eqb, eqb-true, cases_eq}
use Rattle.std.proofs.lemmas.List.{take_more, set-get_or}
use Rattle.std.proofs.lemmas.Option.{slice_get_read}
use Rattle.std.proofs.lemmas.List.Elements.{All-nil, All-cons, All-head, All-tail}
use Rattle.eos_ops.specs.declared.act.Act.{Act}
use Rattle.shadow_txn.specs.Transaction.{Transaction, holding, noting}
use Rattle.shadow_txn.specs.declared.held.Held.{Held}
use Rattle.shadow_txn.specs.Held.{held_object, acts_in, with_object, with_acts, without_held, IsFirstAt, AreDistinct, done_to}

-- what a search that passes its first item finds is what it finds behind it
past_head : {T : Type 0} (b : Bool) (x : T) (r s t : Option T) → (r ≡ None → s ≡ t) →
    (if b then Some x else r) ≡ None → (if b then Some x else s) ≡ t
past_head true x r s t rest none = absurd cc
past_head false x r s t rest none = rest none

head_passed : {T : Type 0} (b : Bool) (x : T) (r : Option T) → (if b then Some x else r) ≡ None → b ≡ false
head_passed true x r none = absurd cc
head_passed false x r none = refl

tail_passed : {T : Type 0} (b : Bool) (x : T) (r : Option T) → (if b then Some x else r) ≡ None → r ≡ None
tail_passed true x r none = absurd cc
tail_passed false x r none = none

-- what is not in the front is found in the back
pub held_object-append : {T : Type 0} (o : ℕ) (xs ys : List (Held T)) → held_object o xs ≡ None →
    held_object o (xs ++ ys) ≡ held_object o ys
held_object-append o [] ys none = refl
held_object-append o (h ∷ xs) ys none =
    past_head (h.number == o) h.object (held_object o xs) (held_object o (xs ++ ys)) (held_object o ys) (held_object-append o xs ys) none

pub held_object-one : {T : Type 0} (o : ℕ) (h : Held T) → h.number ≢ o → held_object o (h ∷ []) ≡ None
held_object-one o h other = let e : nat_eq h.number o ≡ false = ne_eqb h.number o other in rw e refl

-- the object at its place
pub held_object-place : {T : Type 0} (held : List (Held T)) (o i : ℕ) (h : Held T)
    → slice_get held i ≡ Some h → h.number ≡ o → held_object o (take i held) ≡ None → held_object o held ≡ Some h.object
held_object-place [] o i h found same first = absurd cc
held_object-place (k ∷ held) o zero h found same first =
    let e : k ≡ h = cc in
    let n : nat_eq k.number o ≡ true = eq-eqb k.number o (ap (λ (u : Held _). u.number) e ∙ same) in
    rw n (ap (λ (u : Held _). Some u.object) e)
held_object-place (k ∷ held) o (suc i) h found same first =
    past_head (k.number == o) k.object (held_object o (take i held)) (held_object o held) (Some h.object)
    (held_object-place held o i h found same) first

-- one item more that isn't it
pub held_object-more : {T : Type 0} (xs : List (Held T)) (i o : ℕ) (h : Held T)
    → i < length xs → h ≡ slice_index_or xs i h → held_object o (take i xs) ≡ None → h.number ≢ o → held_object o (take (i + 1) xs) ≡ None
held_object-more xs i o h within is none other =
    ap (held_object o) (take_more xs i h within ∙ ap (λ y. take i xs ++ y ∷ []) (sym is))
    ∙ held_object-append o (take i xs) (h ∷ []) none ∙ held_object-one o h other

-- another value of an object, by place
pub with_object-place : {T : Type 0} (held : List (Held T)) (o i : ℕ) (h : Held T) (x : T)
    → slice_get held i ≡ Some h → h.number ≡ o → held_object o (take i held) ≡ None
    → with_object o x held ≡ slice_set held i (record { number = h.number; object = x; acts = h.acts })
with_object-place [] o i h x found same first = absurd cc
with_object-place (k ∷ held) o zero h x found same first =
    let e : k ≡ h = cc in
    let n : nat_eq k.number o ≡ true = eq-eqb k.number o (ap (λ (u : Held _). u.number) e ∙ same) in
    rw n (ap (λ (u : Held _). record { number = u.number; object = x; acts = u.acts } ∷ held) e)
with_object-place (k ∷ held) o (suc i) h x found same first =
    let n : nat_eq k.number o ≡ false = head_passed (k.number == o) k.object _ first in
    rw n (ap (λ hs. k ∷ hs) (with_object-place held o i h x found same (tail_passed (k.number == o) k.object _ first)))

-- no object, by place
pub without_held-place : {T : Type 0} (held : List (Held T)) (o i : ℕ) (h : Held T)
    → slice_get held i ≡ Some h → h.number ≡ o → held_object o (take i held) ≡ None → without_held o held ≡ remove held i
without_held-place [] o i h found same first = absurd cc
without_held-place (k ∷ held) o zero h found same first =
    let e : k ≡ h = cc in
    let n : nat_eq k.number o ≡ true = eq-eqb k.number o (ap (λ (u : Held _). u.number) e ∙ same) in
    rw n refl
without_held-place (k ∷ held) o (suc i) h found same first =
    let n : nat_eq k.number o ≡ false = head_passed (k.number == o) k.object _ first in
    rw n (ap (λ hs. k ∷ hs) (without_held-place held o i h found same (tail_passed (k.number == o) k.object _ first)))

found_past : {T : Type 0} (b : Bool) (x y : T) (r s : Option T) → (r ≡ Some y → s ≡ Some y) →
    (if b then Some x else r) ≡ Some y → (if b then Some x else s) ≡ Some y
found_past true x y r s rest found = found
found_past false x y r s rest found = rest found

-- what is in the front stays what is found
pub held_object-append_some : {T : Type 0} (o : ℕ) (xs ys : List (Held T)) (y : T) → held_object o xs ≡ Some y →
    held_object o (xs ++ ys) ≡ Some y
held_object-append_some o [] ys y found = absurd cc
held_object-append_some o (h ∷ xs) ys y found =
    found_past (h.number == o) h.object y (held_object o xs) (held_object o (xs ++ ys)) (held_object-append_some o xs ys y) found

found_one : {T : Type 0} (b : Bool) (x y : T) → (if b then Some x else None) ≡ Some y → (b ≡ true) × (x ≡ y)
found_one true x y found = (refl, cc)
found_one false x y found = absurd cc

-- an object that is held after one more was taken: it was held before, or is the one that was taken
pub held_object-push : {T : Type 0} (o : ℕ) (held : List (Held T)) (h : Held T) (x : T) (before : Option T)
    → held_object o held ≡ before → held_object o (held ++ h ∷ []) ≡ Some x
    → (held_object o held ≡ Some x) ⊎ ((held_object o held ≡ None) × (h.number ≡ o) × (h.object ≡ x))
held_object-push o held h x (Some y) was found =
    let same : y ≡ x = let e = held_object-append_some o held (h ∷ []) y was in cc in
    inl (was ∙ ap Some same)
held_object-push o held h x None was found =
    let one = found_one (h.number == o) h.object x (sym (held_object-append o held (h ∷ []) was) ∙ found) in
    inr (was, eqb-true h.number o one.0, one.1)

-- an object that isn't held after one more was taken
pub held_object-push_none : {T : Type 0} (o : ℕ) (held : List (Held T)) (h : Held T) (before : Option T)
    → held_object o held ≡ before → held_object o (held ++ h ∷ []) ≡ None → (held_object o held ≡ None) × (o ≢ h.number)
held_object-push_none o held h (Some y) was none = let e = held_object-append_some o held (h ∷ []) y was in absurd cc
held_object-push_none o held h None was none =
    let last : held_object o (h ∷ []) ≡ None = sym (held_object-append o held (h ∷ []) was) ∙ none in
    let other : nat_eq h.number o ≡ false = head_passed (h.number == o) h.object None last in
    (was, λ e. let same : nat_eq h.number o ≡ true = eq-eqb h.number o (sym e) in cc)

-- one more object that wasn't held
pub AreDistinct-push : {T : Type 0} (held : List (Held T)) (h : Held T) → AreDistinct held →
    held_object h.number held ≡ None → AreDistinct (held ++ h ∷ [])
AreDistinct-push [] h apart none = (refl, tt)
AreDistinct-push (k ∷ held) h apart none =
    let other : nat_eq k.number h.number ≡ false = head_passed (k.number == h.number) k.object _ none in
    let differs : h.number ≢ k.number = λ e. let same : nat_eq k.number h.number ≡ true = eq-eqb k.number h.number (sym e) in cc in (
      held_object-append k.number held (h ∷ []) apart.0 ∙ held_object-one k.number h differs,
      AreDistinct-push held h apart.1 (tail_passed (k.number == h.number) k.object _ none),
    )

-- the last one of distinct objects
pub AreDistinct-pop : {T : Type 0} (held : List (Held T)) (h : Held T) → AreDistinct (held ++ h ∷ []) →
    AreDistinct held × (held_object h.number held ≡ None)
AreDistinct-pop [] h apart = (tt, refl)
AreDistinct-pop (k ∷ held) h apart =
    let rest = AreDistinct-pop held h apart.1 in
    let front = held_object-push_none k.number held h (held_object k.number held) refl apart.0 in
    let other : nat_eq k.number h.number ≡ false = ne_eqb k.number h.number front.1 in
    ((front.0, rest.0), rw other rest.1)

pub at_place : {T : Type 0} (held : List (Held T)) (o i : ℕ) (h : Held T) → IsFirstAt held o i →
    h ≡ slice_index_or held i h → (slice_get held i ≡ Some h) × (h.number ≡ o)
at_place held o i h place is =
    let found : slice_get held i ≡ Some h = slice_get_read held _ i h refl place.within is in
    (found, place.number h found)

-- the object that is read at its place
pub held_object-at : {T : Type 0} (held : List (Held T)) (o i : ℕ) (h : Held T) → IsFirstAt held o i →
    h ≡ slice_index_or held i h → held_object o held ≡ Some h.object
held_object-at held o i h place is =
    let at = at_place held o i h place is in held_object-place held o i h at.0 at.1 place.first

-- a write at its place
pub with_object-at : {T : Type 0} (held : List (Held T)) (o i : ℕ) (h : Held T) (x : T)
    → IsFirstAt held o i → h ≡ slice_index_or held i h →
    slice_set held i (record { number = h.number; object = x; acts = h.acts }) ≡ with_object o x held
with_object-at held o i h x place is =
    let at = at_place held o i h place is in sym (with_object-place held o i h x at.0 at.1 place.first)

-- a removal at its place
pub without_held-at : {T : Type 0} (held : List (Held T)) (o i : ℕ) (h : Held T) → IsFirstAt held o i →
    h ≡ slice_index_or held i h → remove held i ≡ without_held o held
without_held-at held o i h place is =
    let at = at_place held o i h place is in sym (without_held-place held o i h at.0 at.1 place.first)

changed_none : {T : Type 0} (b : Bool) (q : ℕ) (k : Held T) (x : T) (held changed : List (Held T))
    → held_object q (k ∷ held) ≡ None → held_object q changed ≡ None
    → held_object q (if b then record { number = k.number; object = x; acts = k.acts } ∷ held else k ∷ changed) ≡ None
changed_none true q k x held changed none rest =
    let other : nat_eq k.number q ≡ false = head_passed (k.number == q) k.object _ none in
    rw other (tail_passed (k.number == q) k.object _ none)
changed_none false q k x held changed none rest =
    let other : nat_eq k.number q ≡ false = head_passed (k.number == q) k.object _ none in rw other rest

pub held_object-with_object_none : {T : Type 0} (o q : ℕ) (x : T) (held : List (Held T)) →
    held_object q held ≡ None → held_object q (with_object o x held) ≡ None
held_object-with_object_none o q x [] none = refl
held_object-with_object_none o q x (k ∷ held) none =
    changed_none (k.number == o) q k x held (with_object o x held) none
    (held_object-with_object_none o q x held (tail_passed (k.number == q) k.object _ none))

distinct_changed : {T : Type 0} (b : Bool) (k : Held T) (x : T) (held changed : List (Held T))
    → held_object k.number held ≡ None → AreDistinct held → held_object k.number changed ≡ None → AreDistinct changed
    → AreDistinct (if b then record { number = k.number; object = x; acts = k.acts } ∷ held else k ∷ changed)
distinct_changed true k x held changed none apart rest others = (none, apart)
distinct_changed false k x held changed none apart rest others = (rest, others)

-- another value of an object is held under the same number
pub AreDistinct-with_object : {T : Type 0} (o : ℕ) (x : T) (held : List (Held T)) → AreDistinct held → AreDistinct (with_object o x held)
AreDistinct-with_object o x [] apart = tt
AreDistinct-with_object o x (k ∷ held) apart =
    distinct_changed (k.number == o) k x held (with_object o x held) apart.0 apart.1
    (held_object-with_object_none o k.number x held apart.0) (AreDistinct-with_object o x held apart.1)

-- a write of what stands there
pub set-same : {T : Type 0} (held : List (Held T)) (i : ℕ) (h : Held T) → h ≡ slice_index_or held i h →
    slice_set held i (record { number = h.number; object = h.object; acts = h.acts }) ≡ held
set-same held i h is = ap (λ k. slice_set held i k) is ∙ set-get_or held i h

pub held_object-self : {T : Type 0} (h : Held T) → held_object h.number (h ∷ []) ≡ Some h.object
held_object-self h = let same : nat_eq h.number h.number ≡ true = eq-eqb h.number h.number refl in rw same refl

-- none of them has this number
pub none-All : {T : Type 0} (n : ℕ) (held : List (Held T)) → held_object n held ≡ None → All (λ (h : Held T). h.number ≢ n) held
none-All n [] none = All-nil (λ (h : Held _). h.number ≢ n)
none-All n (k ∷ held) none =
    let other : nat_eq k.number n ≡ false = head_passed (k.number == n) k.object _ none in
    All-cons (λ (h : Held _). h.number ≢ n) k held (λ e. let same : nat_eq k.number n ≡ true = eq-eqb k.number n e in cc)
    (none-All n held (tail_passed (k.number == n) k.object _ none))

with_here : {T : Type 0} (c : Bool) (q o : ℕ) (x y z : T) (s : Option T) → (c ≡ true → q ≡ o)
    → (if c then Some y else s) ≡ Some z → ((q ≡ o) × (z ≡ y)) ⊎ ((if c then Some x else s) ≡ Some z)
with_here true q o x y z s at found = inl (at refl, cc)
with_here false q o x y z s at found = inr found

with_later : {T : Type 0} (c : Bool) (q o : ℕ) (x y z : T) (r s : Option T) → (r ≡ Some z → ((q ≡ o) × (z ≡ y)) ⊎ (s ≡ Some z))
    → (if c then Some x else r) ≡ Some z → ((q ≡ o) × (z ≡ y)) ⊎ ((if c then Some x else s) ≡ Some z)
with_later true q o x y z r s later found = inr found
with_later false q o x y z r s later found = later found

with_cases : {T : Type 0} (b : Bool) (k : Held T) (q o : ℕ) (y z : T) (held changed : List (Held T)) → (b ≡ true → k.number ≡ o)
    → (held_object q changed ≡ Some z → ((q ≡ o) × (z ≡ y)) ⊎ (held_object q held ≡ Some z))
    → held_object q (if b then record { number = k.number; object = y; acts = k.acts } ∷ held else k ∷ changed) ≡ Some z
    → ((q ≡ o) × (z ≡ y)) ⊎ (held_object q (k ∷ held) ≡ Some z)
with_cases true k q o y z held changed at later found =
    with_here (k.number == q) q o k.object y z (held_object q held) (λ c. sym (eqb-true k.number q c) ∙ at refl) found
with_cases false k q o y z held changed at later found =
    with_later (k.number == q) q o k.object y z (held_object q changed) (held_object q held) later found

-- an object that is held after a change of o: it is o with its new value, or was held before
pub held_object-with_object : {T : Type 0} (o q : ℕ) (y z : T) (held : List (Held T))
    → held_object q (with_object o y held) ≡ Some z → ((q ≡ o) × (z ≡ y)) ⊎ (held_object q held ≡ Some z)
held_object-with_object o q y z [] found = absurd cc
held_object-with_object o q y z (k ∷ held) found =
    with_cases (k.number == o) k q o y z held (with_object o y held) (eqb-true k.number o)
    (held_object-with_object o q y z held) found

none_here : {T : Type 0} (c : Bool) (x y : T) (s : Option T) → (if c then Some y else s) ≡ None → (if c then Some x else s) ≡ None
none_here true x y s none = absurd cc
none_here false x y s none = none

none_cases : {T : Type 0} (b : Bool) (k : Held T) (q : ℕ) (y : T) (held changed : List (Held T))
    → (held_object q changed ≡ None → held_object q held ≡ None)
    → held_object q (if b then record { number = k.number; object = y; acts = k.acts } ∷ held else k ∷ changed)
    ≡ None → held_object q (k ∷ held) ≡ None
none_cases true k q y held changed later none = none_here (k.number == q) k.object y (held_object q held) none
none_cases false k q y held changed later none =
    past_head (k.number == q) k.object (held_object q changed) (held_object q held) None later none

-- what isn't held after a change wasn't held before
pub held_object-none_before : {T : Type 0} (o q : ℕ) (y : T) (held : List (Held T)) →
    held_object q (with_object o y held) ≡ None → held_object q held ≡ None
held_object-none_before o q y [] none = none
held_object-none_before o q y (k ∷ held) none =
    none_cases (k.number == o) k q y held (with_object o y held) (held_object-none_before o q y held) none

later_cases : {T : Type 0} (c : Bool) (k : Held T) (q o : ℕ) (z : T) (r s : Option T) → nat_eq k.number q ≡ c → nat_eq k.number o ≡ false
    → (r ≡ Some z → (q ≢ o) × (s ≡ Some z)) → (if c then Some k.object else r) ≡ Some z → (q ≢ o)
    × ((if c then Some k.object else s) ≡ Some z)
later_cases true k q o z r s here other later found =
    (λ same. let e : nat_eq k.number o ≡ true = eq-eqb k.number o (eqb-true k.number q here ∙ same) in cc, found)
later_cases false k q o z r s here other later found = later found

without_cases : {T : Type 0} (b : Bool) (k : Held T) (q o : ℕ) (z : T) (held rest : List (Held T)) →
    nat_eq k.number o ≡ b → held_object k.number held ≡ None
    → (held_object q rest ≡ Some z → (q ≢ o) × (held_object q held ≡ Some z))
    → held_object q (if b then held else k ∷ rest) ≡ Some z → (q ≢ o) × (held_object q (k ∷ held) ≡ Some z)
without_cases true k q o z held rest at apart later found =
    let differs : q ≢ k.number = λ same. let e = ap (λ n. held_object n held) same in cc in
    let other : nat_eq k.number q ≡ false = ne_eqb k.number q (λ same. differs (sym same)) in
    (λ same. differs (same ∙ sym (eqb-true k.number o at)), rw other found)
without_cases false k q o z held rest at apart later found =
    later_cases (nat_eq k.number q) k q o z (held_object q rest) (held_object q held) refl at later found

-- what is held without o isn't o, and was held
pub held_object-without_held : {T : Type 0} (o q : ℕ) (z : T) (held : List (Held T)) → AreDistinct held →
    held_object q (without_held o held) ≡ Some z → (q ≢ o) × (held_object q held ≡ Some z)
held_object-without_held o q z [] apart found = absurd cc
held_object-without_held o q z (k ∷ held) apart found =
    without_cases (nat_eq k.number o) k q o z held (without_held o held) refl apart.0 (held_object-without_held o q z held apart.1) found

none_later : {T : Type 0} (c : Bool) (q o : ℕ) (x : T) (r s : Option T) → (r ≡ None → (q ≡ o) ⊎ (s ≡ None))
    → (if c then Some x else r) ≡ None → (q ≡ o) ⊎ ((if c then Some x else s) ≡ None)
none_later true q o x r s later none = absurd cc
none_later false q o x r s later none = later none

without_none : {T : Type 0} (b : Bool) (k : Held T) (q o : ℕ) (held rest : List (Held T)) → nat_eq k.number o ≡ b
    → (held_object q rest ≡ None → (q ≡ o) ⊎ (held_object q held ≡ None))
    → held_object q (if b then held else k ∷ rest) ≡ None → (q ≡ o) ⊎ (held_object q (k ∷ held) ≡ None)
without_none true k q o held rest at later none =
    ⊎_elim (λ (same : q ≡ o). inl same)
    (λ (other : q ≡ o → ⊥). let e : nat_eq k.number q ≡ false =
    ne_eqb k.number q (λ same. other (sym same ∙ eqb-true k.number o at)) in inr (rw e none))
    (cases_eq q o)
without_none false k q o held rest at later none =
    none_later (nat_eq k.number q) q o k.object (held_object q rest) (held_object q held) later none

-- what isn't held without o is o, or wasn't held
pub held_object-without_none : {T : Type 0} (o q : ℕ) (held : List (Held T)) →
    held_object q (without_held o held) ≡ None → (q ≡ o) ⊎ (held_object q held ≡ None)
held_object-without_none o q [] none = inr none
held_object-without_none o q (k ∷ held) none =
    without_none (nat_eq k.number o) k q o held (without_held o held) refl (held_object-without_none o q held) none

stays_none : {T : Type 0} (b : Bool) (k : Held T) (q : ℕ) (held rest : List (Held T)) →
    (held_object q held ≡ None → held_object q rest ≡ None)
    → held_object q (k ∷ held) ≡ None → held_object q (if b then held else k ∷ rest) ≡ None
stays_none true k q held rest later none = tail_passed (nat_eq k.number q) k.object _ none
stays_none false k q held rest later none = past_head (nat_eq k.number q) k.object (held_object q held) (held_object q rest) None later none

pub held_object-none_without : {T : Type 0} (o q : ℕ) (held : List (Held T)) → held_object q held ≡ None →
    held_object q (without_held o held) ≡ None
held_object-none_without o q [] none = refl
held_object-none_without o q (k ∷ held) none =
    stays_none (nat_eq k.number o) k q held (without_held o held) (held_object-none_without o q held) none

distinct_without : {T : Type 0} (b : Bool) (k : Held T) (held rest : List (Held T)) → AreDistinct held →
    held_object k.number rest ≡ None → AreDistinct rest
    → AreDistinct (if b then held else k ∷ rest)
distinct_without true k held rest apart none others = apart
distinct_without false k held rest apart none others = (none, others)

pub AreDistinct-without_held : {T : Type 0} (o : ℕ) (held : List (Held T)) → AreDistinct held → AreDistinct (without_held o held)
AreDistinct-without_held o [] apart = tt
AreDistinct-without_held o (k ∷ held) apart =
    distinct_without (nat_eq k.number o) k held (without_held o held) apart.1
    (held_object-none_without o k.number held apart.0) (AreDistinct-without_held o held apart.1)

length_cases : {T : Type 0} (b : Bool) (k : Held T) (held rest : List (Held T)) → length rest ≤ length held →
    length (if b then held else k ∷ rest) ≤ length (k ∷ held)
length_cases true k held rest later = omega arith
length_cases false k held rest later = omega arith

pub length-without_held : {T : Type 0} (o : ℕ) (held : List (Held T)) → length (without_held o held) ≤ length held
length-without_held o [] = omega arith
length-without_held o (k ∷ held) = length_cases (nat_eq k.number o) k held (without_held o held) (length-without_held o held)

all_cases : {T : Type 0} (P : Held T → Type 0) (b : Bool) (k : Held T) (held rest : List (Held T)) → P k →
    All P held → All P rest → All P (if b then held else k ∷ rest)
all_cases P true k held rest here all later = all
all_cases P false k held rest here all later = All-cons P k rest here later

pub All-without_held : {T : Type 0} (P : Held T → Type 0) (o : ℕ) (held : List (Held T)) → All P held → All P (without_held o held)
All-without_held P o [] all = all
All-without_held P o (k ∷ held) all =
    all_cases P (nat_eq k.number o) k held (without_held o held) (All-head P k held all) (All-tail P k held all)
    (All-without_held P o held (All-tail P k held all))

-- acts more on an object, by place
with_acts-place : {T : Type 0} (held : List (Held T)) (o i : ℕ) (h : Held T) (acts : List Act)
    → slice_get held i ≡ Some h → h.number ≡ o → held_object o (take i held) ≡ None →
    with_acts o acts held ≡ slice_set held i (done_to h h.object acts)
with_acts-place [] o i h acts found same first = absurd cc
with_acts-place (k ∷ held) o zero h acts found same first =
    let e : k ≡ h = cc in
    let n : nat_eq k.number o ≡ true = eq-eqb k.number o (ap (λ (u : Held _). u.number) e ∙ same) in
    rw n (ap (λ (u : Held _). done_to u u.object acts ∷ held) e)
with_acts-place (k ∷ held) o (suc i) h acts found same first =
    let n : nat_eq k.number o ≡ false = head_passed (k.number == o) k.object _ first in
    rw n (ap (λ hs. k ∷ hs) (with_acts-place held o i h acts found same (tail_passed (k.number == o) k.object _ first)))

-- another value of an object, and acts more on it, by place
done_to-place : {T : Type 0} (held : List (Held T)) (o i : ℕ) (h : Held T) (x : T) (acts : List Act)
    → slice_get held i ≡ Some h → h.number ≡ o → held_object o (take i held) ≡ None →
    with_acts o acts (with_object o x held) ≡ slice_set held i (done_to h x acts)
done_to-place [] o i h x acts found same first = absurd cc
done_to-place (k ∷ held) o zero h x acts found same first =
    let e : k ≡ h = cc in
    let n : nat_eq k.number o ≡ true = eq-eqb k.number o (ap (λ (u : Held _). u.number) e ∙ same) in
    rw (n, n) (ap (λ (u : Held _). done_to u x acts ∷ held) e)
done_to-place (k ∷ held) o (suc i) h x acts found same first =
    let n : nat_eq k.number o ≡ false = head_passed (k.number == o) k.object _ first in
    rw (n, n) (ap (λ hs. k ∷ hs) (done_to-place held o i h x acts found same (tail_passed (k.number == o) k.object _ first)))

pub done_to-at : {T : Type 0} (held : List (Held T)) (o i : ℕ) (h : Held T) (x : T) (acts : List Act)
    → IsFirstAt held o i → h ≡ slice_index_or held i h → slice_set held i (done_to h x acts) ≡ with_acts o acts (with_object o x held)
done_to-at held o i h x acts place is =
    let at = at_place held o i h place is in sym (done_to-place held o i h x acts at.0 at.1 place.first)

-- acts noted at the place of their object
pub noting-same : {T : Type 0} (t : Transaction T) (o i : ℕ) (h : Held T) (acts : List Act)
    → IsFirstAt t.held o i → h ≡ slice_index_or t.held i h → holding t (slice_set t.held i (done_to h h.object acts)) ≡ noting o acts t
noting-same t o i h [] place is =
    ap (λ more. holding t (slice_set t.held i (record { number = h.number; object = h.object; acts = more }))) (append-nil h.acts)
    ∙ ap (holding t) (set-same t.held i h is)
noting-same t o i h (a ∷ acts) place is =
    let at = at_place t.held o i h place is in ap (holding t) (sym (with_acts-place t.held o i h (a ∷ acts) at.0 at.1 place.first))

-- the same with another value of the object
pub noting-object : {T : Type 0} (t : Transaction T) (o i : ℕ) (h : Held T) (x : T) (acts : List Act)
    → IsFirstAt t.held o i → h ≡ slice_index_or t.held i h →
    holding t (slice_set t.held i (done_to h x acts)) ≡ noting o acts (holding t (with_object o x t.held))
noting-object t o i h x [] place is =
    ap (λ more. holding t (slice_set t.held i (record { number = h.number; object = x; acts = more }))) (append-nil h.acts)
    ∙ ap (holding t) (with_object-at t.held o i h x place is)
noting-object t o i h x (a ∷ acts) place is = ap (holding t) (done_to-at t.held o i h x (a ∷ acts) place is)

acts_passed : {T : Type 0} (b : Bool) (q : ℕ) (k : Held T) (acts : List Act) (held changed : List (Held T)) →
    held_object q changed ≡ held_object q held
    → held_object q (if b then done_to k k.object acts ∷ held else k ∷ changed) ≡ held_object q (k ∷ held)
acts_passed true q k acts held changed same = refl
acts_passed false q k acts held changed same = ap (λ r. if k.number == q then Some k.object else r) same

-- acts change no object
pub held_object-with_acts : {T : Type 0} (o q : ℕ) (acts : List Act) (held : List (Held T)) →
    held_object q (with_acts o acts held) ≡ held_object q held
held_object-with_acts o q acts [] = refl
held_object-with_acts o q acts (k ∷ held) =
    acts_passed (k.number == o) q k acts held (with_acts o acts held) (held_object-with_acts o q acts held)

distinct_acts : {T : Type 0} (b : Bool) (k : Held T) (acts : List Act) (held changed : List (Held T))
    → held_object k.number held ≡ None → AreDistinct held → held_object k.number changed ≡ None → AreDistinct changed
    → AreDistinct (if b then done_to k k.object acts ∷ held else k ∷ changed)
distinct_acts true k acts held changed none apart rest others = (none, apart)
distinct_acts false k acts held changed none apart rest others = (rest, others)

pub AreDistinct-with_acts : {T : Type 0} (o : ℕ) (acts : List Act) (held : List (Held T)) → AreDistinct held →
    AreDistinct (with_acts o acts held)
AreDistinct-with_acts o acts [] apart = tt
AreDistinct-with_acts o acts (k ∷ held) apart =
    distinct_acts (k.number == o) k acts held (with_acts o acts held) apart.0 apart.1
    (held_object-with_acts o k.number acts held ∙ apart.0) (AreDistinct-with_acts o acts held apart.1)

-- the acts on an object that isn't among those before it
pub acts_in-last : {T : Type 0} (rest gone : List (Held T)) (h : Held T) → held_object h.number rest ≡ None →
    acts_in h.number ((rest ++ h ∷ []) ++ gone) ≡ h.acts
acts_in-last [] gone h none = let same : nat_eq h.number h.number ≡ true = eq-eqb h.number h.number refl in rw same refl
acts_in-last (k ∷ rest) gone h none =
    let other : nat_eq k.number h.number ≡ false = head_passed (k.number == h.number) k.object _ none in
    rw other (acts_in-last rest gone h (tail_passed (k.number == h.number) k.object _ none))
