use Rattle.std.proofs.Common.{◌-◌, ◌<◌, ◌≤◌, length}
use Rattle.span_store.specs.Held.{spans_of}
use Rattle.span_store.specs.Order.{first_at}
use Rattle.span_store.proofs.place.place_of.Given as goal

-- the span before `low` begins at the page or before it, and the one at `high` behind it
abbrev pub invariant-loop-low : goal.invariant-loop-low
invariant-loop-low g l = record {
  order : l.low ≤ l.high;
  within : l.high ≤ length l.spans;
  before : 0 < l.low → first_at (spans_of g.S.Span.start g.S.Span.contents l.spans) (l.low - 1) ≤ l.page;
  behind : l.high < length l.spans → l.page < first_at (spans_of g.S.Span.start g.S.Span.contents l.spans) l.high;
}

abbrev pub decreases-loop-low : goal.decreases-loop-low
decreases-loop-low g l = l.high - l.low
