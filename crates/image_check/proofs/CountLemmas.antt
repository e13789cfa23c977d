-- The pages that bytes fill, as a division rounded up.
use Rattle.std.proofs.Common.{◌≡◌, ℕ, ◌+◌, ◌*◌, ◌<◌, ◌≤◌, arith, inl, inr}
use Rattle.std.specs.Int.{div_ceil}
use Rattle.std.proofs.lemmas.Grind.{div_ceil_times}
use Rattle.std.proofs.Math.Nat.{mul-le-mul_right}
use Rattle.std.proofs.lemmas.Bool.{cases_lt}
use Rattle.tree_model.specs.Tree.{page_count}
use Rattle.tree_model.proofs.PageCountLaws.{count-enough, count-holds}

pub div_ceil-count : (size bytes : ℕ) → 0 < size → div_ceil bytes size ≡ page_count size bytes
div_ceil-count size bytes some =
    let k = div_ceil bytes size in
    let both = div_ceil_times bytes size some in
    let high = count-enough size bytes k some both.0 in
    let holds = count-holds size bytes some in
    let low : k ≤ page_count size bytes = elim (cases_lt (page_count size bytes) k) [
      | inl less ↦
          let more : (page_count size bytes + 1) * size ≤ k * size = mul-le-mul_right size (omega (arith, less)) in
          let under = both.1 in
          absurd (omega (arith, more, under, holds))
      | inr fits ↦ omega (arith, fits)
    ] in
    omega (arith, low, high)
