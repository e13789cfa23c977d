-- A page of the run has no entry left, and another page has the one that it had.
use Rattle.std.proofs.Common.{sym}
use Rattle.page_cache.proofs.RunLemmas.{on_run, off_run, lookup-off_gone, lookup-off_same}
use Rattle.page_cache.proofs.kept.Cache.forget_run.Goals as goal

pub returns-clause-gone : goal.returns-clause-gone
returns-clause-gone c = λ q from to.
    rw c.take_run_out.ensures.order (lookup-off_gone c.args.first c.args.pages q c.self.inside.nodes.entries
    (on_run c.args.first c.args.pages q from to))

pub returns-clause-others : goal.returns-clause-others
returns-clause-others c = λ q away. rw (c.take_run_out.ensures.order, sym c.self.view_is)
    (lookup-off_same c.args.first c.args.pages q c.self.inside.nodes.entries (off_run c.args.first c.args.pages q away))
