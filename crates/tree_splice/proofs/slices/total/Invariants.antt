use Rattle.std.proofs.Common.{◌≡◌, take, sum_by}
use Rattle.tree_splice.proofs.slices.total.Given as goal

abbrev pub invariant-loop-number : goal.invariant-loop-number
invariant-loop-number l = l.sum ≡ sum_by (λ n. n) (take l.number-index l.numbers)
