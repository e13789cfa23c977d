-- The spans went, and the nodes of their pages.
use Rattle.give_back.proofs.LeftLemmas.{left-nodes}
use Rattle.give_back.proofs.RunsLemmas.{lies-data, lies-low}
use Rattle.give_back.proofs.giving.give_run.Goals as goal

pub returns-clause-left : goal.returns-clause-left
returns-clause-left g c = record {
  spans = c.give_spans.ensures.left;
  nodes = left-nodes g.S.Span.tells c.args.geometry.now.page c.args.run.page c.args.run.pages c.args.held.now c.give_spans.new.held
      c.args.cache.now c.forget_run.new.self c.give_spans.ensures.left.left c.forget_run.ensures.gone c.forget_run.ensures.others;
}

pub give_spans-requires-clause-on_data : goal.give_spans-requires-clause-on_data
give_spans-requires-clause-on_data g c = lies-data c.args.geometry.now c.args.run c.requires.lies

pub give_spans-requires-clause-within : goal.give_spans-requires-clause-within
give_spans-requires-clause-within g c = lies-low c.args.geometry.now c.args.run c.page-page.ensures.range c.requires.lies
