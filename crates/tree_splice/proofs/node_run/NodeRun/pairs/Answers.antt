use Rattle.std.proofs.Common.{sym, ap, ◌∙◌}
use Rattle.layout_model.specs.Levels.{pairs_of_level}
use Rattle.tree_splice.proofs.RunLemmas.{pairs-kept}
use Rattle.tree_splice.proofs.node_run.NodeRun.pairs.Goals as goal

pub returns : goal.returns
returns c =
    let r = c.self.inside in
    c.as_slice.ensures.value ∙ (sym (pairs-kept r.pages.items r.counts.items r.pairs.items c.self.invariant.1) ∙ ap pairs_of_level
    c.self.view_is)
