use Rattle.std.proofs.Common.{length, sym, ap, ◌∙◌}
use Rattle.change_laws.proofs.SizeLemmas.{made-length}
use Rattle.tree_splice.proofs.node_run.NodeRun.len.Goals as goal

pub returns-clause-count : goal.returns-clause-count
returns-clause-count c =
    let r = c.self.inside in
    c.len.ensures
    ∙ (r.pages.ok.0 ∙ (c.self.invariant.0 ∙ (sym (made-length r.pages.items r.counts.items r.pairs.items) ∙ ap length c.self.view_is)))
