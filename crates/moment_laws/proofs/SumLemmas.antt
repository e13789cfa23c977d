-- Sums over a list whose items past the end count nothing: at most once in all is at most once each and no two
-- together.
use Rattle.std.proofs.Common.{◌≡◌, ◌≢◌, ℕ, zero, suc, ◌+◌, ◌<◌, ◌≤◌, List, [], ◌∷◌, refl, ap, arith, inl, inr}
use Rattle.std.specs.Prelude.{slice_index_or, sum_by}
use Rattle.std.proofs.lemmas.Bool.{cases_lt}
use Rattle.std.proofs.lemmas.List.Sums.{sum_by-cons}

-- an item's part is within the sum
pub part_within : {X : Type 0} (f : X → ℕ) (d : X) → f d ≡ 0 → (xs : List X) (i : ℕ) → f (slice_index_or xs i d) ≤ sum_by f xs
part_within f d none [] i = omega (arith, none)
part_within f d none (x ∷ xs) zero = omega (arith, sum_by-cons f x xs)
part_within f d none (x ∷ xs) (suc i) = omega (arith, sum_by-cons f x xs, part_within f d none xs i)

-- and so are the parts of two items together
pub two_within : {X : Type 0} (f : X → ℕ) (d : X) → f d ≡ 0 → (xs : List X) (i j : ℕ) → i ≢ j →
    f (slice_index_or xs i d) + f (slice_index_or xs j d) ≤ sum_by f xs
two_within f d none [] i j other = omega (arith, none)
two_within f d none (x ∷ xs) zero zero other = absurd (other refl)
two_within f d none (x ∷ xs) zero (suc j) other = omega (arith, sum_by-cons f x xs, part_within f d none xs j)
two_within f d none (x ∷ xs) (suc i) zero other = omega (arith, sum_by-cons f x xs, part_within f d none xs i)
two_within f d none (x ∷ xs) (suc i) (suc j) other =
    omega (arith, sum_by-cons f x xs, two_within f d none xs i j (λ same. other (ap suc same)))

-- where no item counts, nothing does
pub sum_none : {X : Type 0} (f : X → ℕ) (d : X) (xs : List X) → ((i : ℕ) → f (slice_index_or xs i d) ≡ 0) → sum_by f xs ≡ 0
sum_none f d [] none = refl
sum_none f d (x ∷ xs) none = omega (arith, sum_by-cons f x xs, none zero, sum_none f d xs (λ i. none (suc i)))

-- where no other item counts, the sum is one item's part
pub sum_alone : {X : Type 0} (f : X → ℕ) (d : X) → f d ≡ 0 → (xs : List X) (i : ℕ) →
    ((j : ℕ) → i ≢ j → f (slice_index_or xs j d) ≡ 0) → sum_by f xs ≡ f (slice_index_or xs i d)
sum_alone f d none [] i others = omega (arith, none)
sum_alone f d none (x ∷ xs) zero others =
    let rest = sum_none f d xs (λ j. others (suc j) (λ same. omega arith)) in
    omega (arith, sum_by-cons f x xs, rest)
sum_alone f d none (x ∷ xs) (suc i) others =
    let first : f x ≡ 0 = others zero (λ same. omega arith) in
    let rest = sum_alone f d none xs i (λ j other. others (suc j) (λ same. other (omega arith))) in
    omega (arith, sum_by-cons f x xs, first, rest)

-- each item counts at most once, and no two: the sum is at most one
pub sum_once : {X : Type 0} (f : X → ℕ) (d : X) (xs : List X) → ((i : ℕ) → f (slice_index_or xs i d) ≤ 1) →
    ((i j : ℕ) → i ≢ j → 0 < f (slice_index_or xs i d) → f (slice_index_or xs j d) ≡ 0) → sum_by f xs ≤ 1
sum_once f d [] each apart = let small : 0 ≤ 1 = omega arith in small
sum_once f d (x ∷ xs) each apart =
    elim (cases_lt 0 (f x)) [
      | inl some ↦
          let rest = sum_none f d xs (λ j. apart zero (suc j) (λ same. omega arith) some) in
          omega (arith, sum_by-cons f x xs, each zero, rest)
      | inr none ↦
          let rest = sum_once f d xs (λ i. each (suc i)) (λ i j other. apart (suc i) (suc j) (λ same. other (omega arith))) in
          omega (arith, sum_by-cons f x xs, none, rest)
    ]
