use Rattle.std.proofs.Common.{◌≡◌, ◌+◌, ◌≤◌, take}
use Rattle.tree_model.specs.Tree.{bytes_of}
use Rattle.tree_read.proofs.children.child_at.Given as goal

abbrev pub invariant-loop-pair : goal.invariant-loop-pair
invariant-loop-pair l = record {
  place : l.place ≡ l.start + bytes_of (take l.pair-index l.pairs);
  before : l.place ≤ l.at;
}
