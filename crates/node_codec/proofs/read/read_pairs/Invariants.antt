use Rattle.std.proofs.Common.{◌≡◌, drop}
use Rattle.tree_model.specs.Node.{pairs_in}
use Rattle.node_codec.proofs.read.read_pairs.Given as goal

abbrev pub invariant-loop-i : goal.invariant-loop-i
invariant-loop-i l = record {
  items : l.into.items ≡ pairs_in l.i (drop 8 l.page);
  room : l.into.room ≡ l.fn.into.room;
}
