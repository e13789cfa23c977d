use Rattle.std.proofs.Common.{◌≡◌, ℕ, ◌+◌, ◌-◌, ◌<◌, ◌≤◌, length}
use Rattle.page_port.specs.Pages.{run}
use Rattle.space_directory.specs.Slots.{IsRow, IsEmptied, KeepsSlots, pages_held}
use Rattle.space_directory.proofs.slots.take_run.Given as goal

-- the pages of the slots from `from` on are in the span
abbrev pub invariant-loop-from : goal.invariant-loop-from
invariant-loop-from g l = record {
  low : l.at ≤ l.from;
  high : l.from < l.at + l.n;
  begins : (base : ℕ) → IsRow g.S.Span.start g.S.Span.contents base l.fn.slots l.at l.n → g.S.Span.start l.span ≡ base + l.from;
  count : length (g.S.Span.contents l.span) ≡ l.at + l.n - l.from;
  pages : g.S.Span.contents l.span ≡ run l.from (l.at + l.n - l.from) (pages_held g.S.Span.contents l.fn.slots);
  emptied : IsEmptied l.slots l.from (l.at + l.n - l.from);
  others : KeepsSlots l.fn.slots l.slots l.from (l.at + l.n - l.from);
}

abbrev pub decreases-loop-from : goal.decreases-loop-from
decreases-loop-from g l = l.from - l.at
