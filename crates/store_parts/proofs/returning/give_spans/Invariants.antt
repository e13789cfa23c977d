use Rattle.std.proofs.Common.{◌≡◌, vec_len}
use Rattle.span_store.specs.Held.{span_of}
use Rattle.store_parts.specs.Returning.{ShowsSpan, is_page_of}
use Rattle.store_parts.proofs.ReturningLemmas.{AreGiven}
use Rattle.store_parts.proofs.returning.give_spans.Given as goal

-- the spans behind those that are left came back
abbrev pub invariant-list : goal.invariant-list
invariant-list g l = record {
  given : AreGiven (λ span. is_page_of (span_of g.Y.S.Span.start g.Y.S.Span.contents span))
      (λ at span. ShowsSpan at (span_of g.Y.S.Span.start g.Y.S.Span.contents span)) g.Y.S.Span.tells
      l.fn.spans.items l.spans.items (g.Y.Bay.device l.fn.bay) (g.Y.Bay.device l.bay);
  faults : (g.Y.Bay.device l.bay).faults ≡ (g.Y.Bay.device l.fn.bay).faults;
}

abbrev pub decreases-list : goal.decreases-list
decreases-list g l = vec_len l.spans
