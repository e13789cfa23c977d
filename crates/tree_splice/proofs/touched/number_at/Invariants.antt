-- What is left of the place is sought among the nodes that are left.
use Rattle.std.proofs.Common.{◌≡◌, ◌+◌, drop}
use Rattle.tree_splice.specs.Remade.{number_at}
use Rattle.tree_splice.proofs.touched.number_at.Given as goal

abbrev pub invariant-loop-count : goal.invariant-loop-count
invariant-loop-count l = record {
  number : l.number ≡ l.count-index;
  found : number_at l.counts l.at ≡ l.number + number_at (drop l.count-index l.counts) l.left;
}
