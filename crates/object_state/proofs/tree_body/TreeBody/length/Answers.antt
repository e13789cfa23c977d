use Rattle.std.proofs.Common.{◌<◌, subst}
use Rattle.object_state.specs.Tree.{TreeView}
use Rattle.object_state.proofs.TiedLemmas.{tree-tied}
use Rattle.object_state.proofs.tree_body.TreeBody.length.Goals as goal
use Rattle.geometry_model.proofs.NumberLaws.{page-some}

pub returns-in-Some-clause-tied : goal.returns-in-Some-clause-tied
returns-in-Some-clause-tied g c =
    tree-tied g.P.S.Span.tells c.args.self.now
    (subst (λ (v : TreeView). 0 < v.numbers.page) c.self.view_is (page-some c.self.inside.geometry c.page-page.ensures.range))
    c.keeps_tree.ensures

pub returns-in-None-clause-tied : goal.returns-in-None-clause-tied
returns-in-None-clause-tied g c =
    tree-tied g.P.S.Span.tells c.args.self.now
    (subst (λ (v : TreeView). 0 < v.numbers.page) c.self.view_is (page-some c.self.inside.geometry c.page-page.ensures.range))
    c.keeps_tree.ensures
