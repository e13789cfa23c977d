use Rattle.std.proofs.Common.{◌≡◌, ◌+◌, ◌-◌, ◌≤◌, [], length}
use Rattle.std.specs.Vec.{vec_capacity}
use Rattle.span_store.specs.Pieces.{spans_in}
use Rattle.span_store.proofs.row.prepare.Given as goal

-- each spare piece is empty, and there is room for all that are wanted
abbrev pub invariant-loop-alloc : goal.invariant-loop-alloc
invariant-loop-alloc g l = record {
  empty : spans_in l.spare.items ≡ [];
  least : length l.fn.spare.items ≤ length l.spare.items;
  most : length l.spare.items ≤ l.all;
  fits : length l.pieces.items + l.all ≤ vec_capacity l.spare;
}

abbrev pub decreases-loop-alloc : goal.decreases-loop-alloc
decreases-loop-alloc g l = l.count - length l.spare.items
