-- One span more came back at each step.
use Rattle.std.proofs.Common.{◌≡◌, refl, ◌∙◌, length, unwrap_or, [], rules}
use Rattle.page_port.specs.Pages.{AreOf}
use Rattle.span_store.specs.Held.{span_of}
use Rattle.store_parts.specs.Returning.{IsOnMount, ShowsSpan, is_page_of}
use Rattle.store_parts.proofs.ReturningLemmas.{given-none, given-more, given-all, last-left}
use Rattle.store_parts.proofs.ReturningLemmas.{on-still, sized-still, own-span, own-span-shows}
use Rattle.store_parts.proofs.returning.give_spans.Goals as goal

pub list-init : goal.list-init
list-init g c = record {
  given = given-none (λ span. is_page_of (span_of g.Y.S.Span.start g.Y.S.Span.contents span))
      (λ at span. ShowsSpan at (span_of g.Y.S.Span.start g.Y.S.Span.contents span)) g.Y.S.Span.tells
      c.args.spans.items (g.Y.Bay.device c.args.bay.now) c.requires.out;
  faults = refl;
}

pub list-preserved : goal.list-preserved
list-preserved g c =
    let span = span_of g.Y.S.Span.start g.Y.S.Span.contents c.in-Some.span in
    record {
      given = given-more (λ span. is_page_of (span_of g.Y.S.Span.start g.Y.S.Span.contents span))
          (λ at span. ShowsSpan at (span_of g.Y.S.Span.start g.Y.S.Span.contents span)) g.Y.S.Span.tells
          c.args.spans.items c.list.spans.items c.pop.new.self.items c.in-Some.span (own-span span)
          (g.Y.Bay.device c.args.bay.now) (g.Y.Bay.device c.list.bay) (g.Y.Bay.device c.give_span.new.bay) (own-span-shows span)
          c.in-Some.ensures.items c.list.invariant.given c.give_span.ensures.back;
      faults = c.give_span.ensures.faults ∙ c.list.invariant.faults;
    }

pub give_span-requires-clause-out : goal.give_span-requires-clause-out
give_span-requires-clause-out g c = λ _ _. c.list.invariant.given.out

pub give_span-requires-clause-on : goal.give_span-requires-clause-on
give_span-requires-clause-on g c = λ _ _ tell.
    let old = g.Y.Bay.device c.args.bay.now in
    on-still old (g.Y.Bay.device c.list.bay) (g.Y.S.Span.start c.in-Some.span) (length (g.Y.S.Span.contents c.in-Some.span))
    (c.list.invariant.given.count tell)
    (last-left (λ span. is_page_of (span_of g.Y.S.Span.start g.Y.S.Span.contents span))
    (λ at span. ShowsSpan at (span_of g.Y.S.Span.start g.Y.S.Span.contents span)) g.Y.S.Span.tells
    (λ span. IsOnMount old (g.Y.S.Span.start span) (length (g.Y.S.Span.contents span))
    × AreOf (unwrap_or old.mounted 0) (g.Y.S.Span.contents span))
    c.args.spans.items c.list.spans.items c.pop.new.self.items c.in-Some.span old (g.Y.Bay.device c.list.bay)
    c.in-Some.ensures.items c.list.invariant.given (c.requires.on tell)).0

pub give_span-requires-clause-sized : goal.give_span-requires-clause-sized
give_span-requires-clause-sized g c = λ _ _ tell.
    let old = g.Y.Bay.device c.args.bay.now in
    sized-still old (g.Y.Bay.device c.list.bay) (g.Y.S.Span.contents c.in-Some.span) (c.list.invariant.given.mounted tell)
    (last-left (λ span. is_page_of (span_of g.Y.S.Span.start g.Y.S.Span.contents span))
    (λ at span. ShowsSpan at (span_of g.Y.S.Span.start g.Y.S.Span.contents span)) g.Y.S.Span.tells
    (λ span. IsOnMount old (g.Y.S.Span.start span) (length (g.Y.S.Span.contents span))
    × AreOf (unwrap_or old.mounted 0) (g.Y.S.Span.contents span))
    c.args.spans.items c.list.spans.items c.pop.new.self.items c.in-Some.span old (g.Y.Bay.device c.list.bay)
    c.in-Some.ensures.items c.list.invariant.given (c.requires.on tell)).1

pub returns-clause-back : goal.returns-clause-back
returns-clause-back g c =
    let none : c.list.spans.items ≡ [] = search rules in
    given-all (λ span. is_page_of (span_of g.Y.S.Span.start g.Y.S.Span.contents span))
    (λ at span. ShowsSpan at (span_of g.Y.S.Span.start g.Y.S.Span.contents span)) g.Y.S.Span.tells
    c.args.spans.items c.list.spans.items (g.Y.Bay.device c.args.bay.now) (g.Y.Bay.device c.list.bay) none c.list.invariant.given
