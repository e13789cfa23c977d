use Rattle.std.proofs.Common.{◌≡◌, ◌+◌, ◌++◌, take}
use Rattle.tree_model.specs.Tree.{bytes_of}
use Rattle.tree_model.specs.Range.{in_range}
use Rattle.tree_read.proofs.children.push_children.Given as goal

abbrev pub invariant-loop-pair : goal.invariant-loop-pair
invariant-loop-pair l = record {
  place : l.place ≡ l.start + bytes_of (take l.pair-index l.pairs);
  items : l.into.items ≡ l.fn.into.items ++ in_range l.from l.to l.start (take l.pair-index l.pairs);
}
