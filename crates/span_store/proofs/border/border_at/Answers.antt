-- Only the last span that begins at the page or before it and the one before it can meet there.
use Rattle.std.proofs.Common.{ap, ◌∙◌, arith}
use Rattle.span_store.specs.Held.{HeldSpan}
use Rattle.span_store.specs.Pieces.{spans_in}
use Rattle.span_store.proofs.SpanLists.{end_of}
use Rattle.span_store.proofs.Begun.{no_border_begun, no_border_end, no_border_first, no_border_none}
use Rattle.span_store.proofs.border.border_at.Goals as goal

pub returns-in_default-clause-none : goal.returns-in_default-clause-none
returns-in_default-clause-none g c = no_border_none (spans_in c.args.pieces.now) c.args.page c.requires.order c.in_default.ensures.none

pub returns-in_default-before-clause-none : goal.returns-in_default-before-clause-none
returns-in_default-before-clause-none g c =
    no_border_first c.args.pieces.now c.args.page c.in-Some.next.piece c.in-Some.next.index c.requires.order c.in-Some.ensures.found
    c.in_default-before.ensures.none

pub returns-then-begun-page-clause-none : goal.returns-then-begun-page-clause-none
returns-then-begun-page-clause-none g c =
    no_border_begun c.args.pieces.now c.args.page c.in-Some.next.piece c.in-Some.next.index c.requires.order c.in-Some.ensures.found
    (λ e. c.if-begun-page.true (c.first-begun.ensures ∙ ap (λ (s : HeldSpan). s.first) c.span_at.ensures ∙ e))

pub returns-then-end-page-clause-none : goal.returns-then-end-page-clause-none
returns-then-end-page-clause-none g c =
    no_border_end c.args.pieces.now c.args.page c.in-Some-before.front.piece c.in-Some-before.front.index c.in-Some.next.piece
    c.in-Some.next.index c.requires.order c.in-Some.ensures.found c.in-Some-before.ensures.some (λ e. c.if-end-page.true (omega (
      arith,
      c.first.ensures,
      c.pages.ensures.count,
      ap end_of c.span_at-span.ensures,
      e,
    )))
