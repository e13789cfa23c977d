use Rattle.std.proofs.Common.{◌≡◌, ◌+◌, ◌-◌, ◌≤◌, ◌++◌, length, reverse}
use Rattle.std.specs.Vec.{vec_capacity}
use Rattle.span_store.proofs.piece.move_back.Given as goal

-- those moved so far stand in the reverse order
abbrev pub invariant-loop-from : goal.invariant-loop-from
invariant-loop-from g l = record {
  all : l.from.items ++ reverse l.to.items ≡ l.fn.from.items;
  count : length l.from.items + length l.to.items ≡ length l.fn.from.items;
  keep : l.keep ≤ length l.from.items;
  from_room : vec_capacity l.from ≡ vec_capacity l.fn.from;
  to_room : vec_capacity l.to ≡ vec_capacity l.fn.to;
}

abbrev pub decreases-loop-from : goal.decreases-loop-from
decreases-loop-from g l = length l.from.items - l.keep
