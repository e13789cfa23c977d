-- The segments that were popped are held.
use Rattle.std.proofs.Common.{ℕ, ◌+◌, ◌≤◌, length}
use Rattle.std.specs.List.{AllByRecursion}
use Rattle.std.specs.Prelude.{vec_len}
use Rattle.page_port.specs.Pages.{IsSized}
use Rattle.span_store.specs.Held.{AllSized}
use Rattle.held_parts.specs.Asking.{AreHeldLast}
use Rattle.held_parts.proofs.holding.hold_all.Given as goal

abbrev pub invariant-moves : goal.invariant-moves
invariant-moves g l = record {
  last : AreHeldLast (λ s. g.S.Span.start s.span) (λ s. g.S.Span.contents s.span) l.fn.segments.items l.segments.items l.fn.held l.held;
  some : AllByRecursion (λ s. 1 ≤ length (g.S.Span.contents s.span)) l.segments.items;
  room : length l.held.spans + length l.segments.items ≤ l.held.room;
  sized : (size : ℕ) → AllSized g.S.Span.tells size l.fn.held →
      AllByRecursion (λ s. IsSized g.S.Span.tells size (g.S.Span.contents s.span)) l.fn.segments.items →
      AllSized g.S.Span.tells size l.held
      × AllByRecursion (λ s. IsSized g.S.Span.tells size (g.S.Span.contents s.span)) l.segments.items;
}

abbrev pub decreases-moves : goal.decreases-moves
decreases-moves g l = vec_len l.segments
