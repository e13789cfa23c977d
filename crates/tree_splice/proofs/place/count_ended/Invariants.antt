-- What is left of the place is sought among the entries that are left.
use Rattle.std.proofs.Common.{◌≡◌, ◌+◌, drop}
use Rattle.layout_model.specs.Parts.{count_ended}
use Rattle.tree_splice.proofs.place.count_ended.Given as goal

abbrev pub invariant-loop-pair : goal.invariant-loop-pair
invariant-loop-pair l = record {
  number : l.count ≡ l.pair-index;
  found : count_ended l.at l.pairs ≡ l.count + count_ended l.left (drop l.pair-index l.pairs);
}
