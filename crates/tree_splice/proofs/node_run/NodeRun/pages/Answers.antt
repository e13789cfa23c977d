use Rattle.std.proofs.Common.{sym, ap, ◌∙◌}
use Rattle.tree_splice.specs.Remade.{row_pages}
use Rattle.tree_splice.proofs.RunLemmas.{pages-kept}
use Rattle.tree_splice.proofs.node_run.NodeRun.pages.Goals as goal

pub returns : goal.returns
returns c =
    let r = c.self.inside in
    c.as_slice.ensures.value ∙ (sym (pages-kept r.pages.items r.counts.items r.pairs.items c.self.invariant.0) ∙ ap row_pages
    c.self.view_is)
