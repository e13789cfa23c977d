-- A page that was granted, and is owned already, went back.
use Rattle.body_double.specs.Page.{OwnPage, IsGrantedPage}
use Rattle.body_double.proofs.PageLemmas.{back-untouched}
use Rattle.body_double.proofs.owned.ask.Goals as goal

pub returns-then-is_at-clause-refused : goal.returns-then-is_at-clause-refused
returns-then-is_at-clause-refused g c =
    let own : OwnPage = record {
      space = c.in-Ok.segment.space;
      first = g.S.Span.start c.in-Ok.segment.span;
      pages = g.S.Span.contents c.in-Ok.segment.span;
    } in
    let granted : IsGrantedPage g.S.Span.tells c.args.start own (g.L.Hints.rest c.args.latches.now) (g.L.Hints.rest c.grant.new.latches)
    (g.L.Hints.trace c.args.latches.now) (g.L.Hints.trace c.grant.new.latches) =
    record {
      rest = c.in-Ok.ensures.rest;
      searched = c.in-Ok.ensures.trace;
      segment = c.in-Ok.ensures.segment;
      exact = c.in-Ok.ensures.exact;
    } in
    back-untouched g.S.Span.tells c.args.start own
    (g.L.Hints.rest c.args.latches.now) (g.L.Hints.rest c.grant.new.latches) (g.L.Hints.rest c.release.new.latches)
    (g.L.Hints.trace c.args.latches.now) (g.L.Hints.trace c.grant.new.latches) (g.L.Hints.trace c.release.new.latches)
    granted c.release.ensures
