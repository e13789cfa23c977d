use Rattle.std.proofs.Common.{◌∙◌}
use Rattle.base_laws.proofs.ResultLaws.{if_ok}
use Rattle.object_plan.proofs.CodeLemmas.{between-pairs}
use Rattle.object_plan.proofs.sides.pairs_between.Goals as goal

pub returns : goal.returns
returns c =
    let window = c.args.window.now in
    if_ok c.pairs_in.result (λ pairs is. is ∙ between-pairs c.args.sides window c.one_where-first.result c.one_where.result
    c.one_where-first.ensures c.one_where.ensures c.requires) c.pairs_in.ensures
