-- The first span from a page on, where one begins at the page.
use Rattle.std.proofs.Common.{sym}
use Rattle.span_store.specs.Held.{span_of}
use Rattle.object_state.proofs.DropLemmas.{span-run}
use Rattle.object_state.proofs.letting_go.span_pages.Goals as goal

pub returns : goal.returns
returns g c =
    span-run c.args.held.now (span_of g.S.Span.start g.S.Span.contents c.in-Some.span.now) c.args.first c.pages.result
    c.in-Some.ensures.found c.requires (sym c.pages.ensures.count)
