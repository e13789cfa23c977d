use Rattle.std.proofs.Common.{sym, ap, ◌∙◌, arith}
use Rattle.tree_splice.specs.Remade.{counts_of}
use Rattle.tree_splice.proofs.RunLemmas.{total, counts-kept}
use Rattle.tree_splice.proofs.node_run.NodeRun.counts.Goals as goal

pub returns-clause-counts : goal.returns-clause-counts
returns-clause-counts c =
    let r = c.self.inside in
    let enough = c.self.invariant.1 in
    c.as_slice.ensures.value ∙ (sym (counts-kept r.pages.items r.counts.items r.pairs.items (omega (arith, enough))) ∙ ap counts_of
    c.self.view_is)

pub returns-clause-small : goal.returns-clause-small
returns-clause-small c =
    let r = c.self.inside in
    let same = ap total c.as_slice.ensures.value in
    let all = c.self.invariant.1 in
    let fits = r.pairs.ok in
    let small = r.pairs.small in
    omega (arith, same, all, fits, small)
