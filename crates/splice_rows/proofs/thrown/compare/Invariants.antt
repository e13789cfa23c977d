-- There is room for the node of a page.
use Rattle.std.proofs.Common.{◌≤◌}
use Rattle.tree_model.specs.Node.{room_of}
use Rattle.splice_rows.proofs.thrown.compare.Given as goal

abbrev pub invariant-loop-number : goal.invariant-loop-number
invariant-loop-number g l = record {
  room : room_of 256 ≤ l.found.pairs.room;
}

abbrev pub invariant-loop-node : goal.invariant-loop-node
invariant-loop-node g l = record {
  room : room_of 256 ≤ l.found.pairs.room;
}
