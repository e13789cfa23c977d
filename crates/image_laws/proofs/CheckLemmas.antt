-- What follows from checks that all pass, and when they do.
use Rattle.std.proofs.Common.{◌≡◌, ℕ, zero, suc, ◌+◌, ◌<◌, ◌≤◌, Bool, true, false, not, cond, IsTrue, List, [], ◌∷◌}
use Rattle.std.proofs.Common.{refl, sym, ap, subst, arith, ◌∙◌, ◌⊎◌, inl, inr}
use Rattle.std.specs.List.{AllByRecursion, range_with_len}
use Rattle.image_model.specs.Checks.{Refusal, Walk, Checked, then_check, check, each}
use Rattle.image_model.specs.Checks.Checked.{Passed, Failed}

-- further checks pass where the first ones do
pub passed-then : (c : Checked) (next : Walk → Checked) (out : Walk) → then_check c next ≡ Passed out → (u : Walk)
    × (c ≡ Passed u) × (next u ≡ Passed out)
passed-then (Passed u) next out passed = (u, refl, passed)
passed-then (Failed refusal) next out passed = absurd cc

-- a check that passes leaves the walk as it was
pub passed-check : (holds : Bool) (refusal : Refusal) (walk out : Walk) → check holds refusal walk ≡ Passed out →
    (holds ≡ true) × (walk ≡ out)
passed-check true refusal walk out passed = (refl, cc)
passed-check false refusal walk out passed = absurd cc

pub test-cases : (b : Bool) → (b ≡ true) ⊎ (b ≡ false)
test-cases true = inl refl
test-cases false = inr refl

pub not-true : (b : Bool) → not b ≡ true → b ≡ false
not-true true is = absurd cc
not-true false is = refl

-- checks of items that leave the walk as it was
pub passed-each : {A : Type 0} (P : A → Walk → Type 0) (step : A → Walk → Checked) →
    ((item : A) (walk out : Walk) → step item walk ≡ Passed out → P item walk × (walk ≡ out)) →
    (items : List A) (walk out : Walk) → each step items walk ≡ Passed out → AllByRecursion (λ item. P item walk) items × (walk ≡ out)
passed-each P step one [] walk out passed = (tt, cc)
passed-each P step one (item ∷ rest) walk out passed =
    let first = passed-then (step item walk) (each step rest) out passed in
    let here = one item walk first.0 first.1 in
    let same : walk ≡ first.0 = here.1 in
    let left : each step rest walk ≡ Passed out = ap (each step rest) same ∙ first.2 in
    let more = passed-each P step one rest walk out left in
    ((here.0, more.0), more.1)

-- one of the items of a range
pub in-range : (P : ℕ → Type 0) (from count : ℕ) → AllByRecursion P (range_with_len from count) → (i : ℕ) →
    from ≤ i → i < from + count → P i
in-range P from zero all i low high = absurd (omega (arith, low, high))
in-range P from (suc count) all i low high =
    elim (same-or-above from i low) [
      | inl same ↦ subst P same all.0
      | inr above ↦ in-range P (from + 1) count all.1 i (omega (arith, above)) (omega (arith, high))
    ]
  where
    same-or-above : (a b : ℕ) → a ≤ b → (a ≡ b) ⊎ (a < b)
    same-or-above zero zero low = inl refl
    same-or-above zero (suc b) low = inr (omega arith)
    same-or-above (suc a) zero low = absurd (omega (arith, low))
    same-or-above (suc a) (suc b) low =
        elim (same-or-above a b (omega (arith, low))) [
          | inl same ↦ inl (ap suc same)
          | inr above ↦ inr (omega (arith, above))
        ]
