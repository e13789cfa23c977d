use Rattle.std.proofs.Common.{ℕ, ap, ◌∙◌}
use Rattle.tree_model.specs.Tree.{page_count}
use Rattle.layout_model.specs.Parts.{without_pages}
use Rattle.edit_plan.specs.Spots.{head_in}
use Rattle.edit_plan.proofs.EntryLemmas.{entry-inside}
use Rattle.edit_plan.proofs.back.rest.Goals as goal

pub head-requires : goal.head-requires
head-requires c =
    entry-inside c.args.geometry.now c.args.pair c.page-page.result c.args.inside c.page-page.ensures.exact c.page-page.ensures.range
    c.requires.entry c.requires.within

pub right-requires : goal.right-requires
right-requires c =
    entry-inside c.args.geometry.now c.args.pair c.page-page.result c.args.inside c.page-page.ensures.exact c.page-page.ensures.range
    c.requires.entry c.requires.within

pub returns-clause-head : goal.returns-clause-head
returns-clause-head c = c.head.ensures ∙ ap (λ (k : ℕ). head_in k c.args.inside c.args.pair) c.page-page.ensures.exact

pub returns-clause-right : goal.returns-clause-right
returns-clause-right c =
    c.right.ensures ∙ ap (λ (k : ℕ). without_pages k (page_count k c.args.inside) c.args.pair) c.page-page.ensures.exact
