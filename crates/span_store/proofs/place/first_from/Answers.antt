-- The first of all spans, or the one behind the last that begins before the page.
use Rattle.std.proofs.Common.{sym, subst, arith}
use Rattle.span_store.specs.Pieces.{IsCountBefore, spans_in}
use Rattle.span_store.proofs.Nexts.{before_next, none_before, start_from}
use Rattle.span_store.proofs.place.first_from.Goals as goal

pub returns-then-page-eq0 : goal.returns-then-page-eq0
returns-then-page-eq0 g c =
    start_from c.args.pieces.now c.args.page c.requires (none_before (spans_in c.args.pieces.now) c.args.page c.if-page-eq0.true)

pub returns-in-Some : goal.returns-in-Some
returns-in-Some g c = record {
  at = c.after.ensures.at;
  count = subst (IsCountBefore (spans_in c.args.pieces.now) c.args.page) (sym c.after.ensures.rank)
      (before_next (spans_in c.args.pieces.now) c.args.page _ (omega (arith, c.if-page-eq0.false)) c.in-Some.ensures.found.rank);
}

pub returns-in-None : goal.returns-in-None
returns-in-None g c =
    start_from c.args.pieces.now c.args.page c.requires
    (before_next (spans_in c.args.pieces.now) c.args.page 0 (omega (arith, c.if-page-eq0.false)) c.in-None.ensures.none)
