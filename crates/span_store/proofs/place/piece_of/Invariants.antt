use Rattle.std.proofs.Common.{◌-◌, ◌<◌, ◌≤◌, length}
use Rattle.span_store.specs.Order.{first_at}
use Rattle.span_store.specs.Pieces.{piece_at}
use Rattle.span_store.proofs.place.piece_of.Given as goal

-- the piece at `low` is the first or begins at the page or before it, the one at `high` behind it
abbrev pub invariant-loop-low : goal.invariant-loop-low
invariant-loop-low g l = record {
  order : l.low < l.high;
  within : l.high ≤ length l.pieces;
  before : 0 < l.low → first_at (piece_at l.pieces l.low) 0 ≤ l.page;
  behind : l.high < length l.pieces → l.page < first_at (piece_at l.pieces l.high) 0;
}

abbrev pub decreases-loop-low : goal.decreases-loop-low
decreases-loop-low g l = l.high - l.low
