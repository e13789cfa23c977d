-- Counts of the numbers below a bound at which a test is true.
use Rattle.std.proofs.Common.{◌≡◌, ◌≢◌, ℕ, zero, suc, ◌+◌, ◌<◌, Bool, true, false, refl, ap, ◌∙◌, arith, inl, inr}
use Rattle.std.proofs.lemmas.Bool.{cases_eq}
use Rattle.history.specs.Holding.{count_below}
use Rattle.machine.proofs.Counting.{count_below-agree}

-- nothing is counted where the test fails everywhere
pub count_below-none : (n : ℕ) (p : ℕ → Bool) → ((k : ℕ) → k < n → p k ≡ false) → count_below n p ≡ 0
count_below-none zero p none = refl
count_below-none (suc n) p none =
    let here : p n ≡ false = none n (omega arith) in
    let below : count_below n p ≡ 0 = count_below-none n p (λ k h. none k (omega arith)) in
    rw (here, below) refl

-- a test that is true at one number more counts one more
pub count_below-more : (n o : ℕ) (p q : ℕ → Bool) → o < n → p o ≡ false → q o ≡ true →
    ((k : ℕ) → k ≢ o → p k ≡ q k) → count_below n q ≡ count_below n p + 1
count_below-more zero o p q within not_yet now same = absurd (omega arith)
count_below-more (suc n) o p q within not_yet now same = elim (cases_eq n o) [
  | inl here ↦
      let last : count_below n p ≡ count_below n q = count_below-agree n p q (λ k h. same k (omega arith)) in
      let yes_here : q n ≡ true = ap q here ∙ now in
      let no_here : p n ≡ false = ap p here ∙ not_yet in
      rw (yes_here, no_here, last) (omega arith)
  | inr other ↦
      let before : count_below n q ≡ count_below n p + 1 = count_below-more n o p q (omega arith) not_yet now same in
      let here : p n ≡ q n = same n other in
      rw (here, before) (omega arith)
]
