use Rattle.std.proofs.Common.{◌≡◌, ◌+◌, ◌-◌, ◌≤◌, length, drop}
use Rattle.space_directory.specs.Slots.{AreSpread, KeepsSlots}
use Rattle.space_directory.proofs.slots.put_run.Given as goal

-- the slots so far have the first pages, and the rest of the span has the others
abbrev pub invariant-loop-rest : goal.invariant-loop-rest
invariant-loop-rest g l = record {
  from : l.at ≤ l.to;
  begins : g.S.Span.start l.rest ≡ g.S.Span.start l.fn.span + (l.to - l.at);
  left : g.S.Span.contents l.rest ≡ drop (l.to - l.at) (g.S.Span.contents l.fn.span);
  count : length (g.S.Span.contents l.rest) + (l.to - l.at) ≡ length (g.S.Span.contents l.fn.span);
  filled : AreSpread g.S.Span.start g.S.Span.contents (g.S.Span.start l.fn.span) (g.S.Span.contents l.fn.span) l.slots l.at (l.to - l.at);
  others : KeepsSlots l.fn.slots l.slots l.at (l.to - l.at);
}

abbrev pub decreases-loop-rest : goal.decreases-loop-rest
decreases-loop-rest g l = length (g.S.Span.contents l.rest)
