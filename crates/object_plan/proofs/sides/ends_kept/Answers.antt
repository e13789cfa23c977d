use Rattle.std.proofs.Common.{◌<◌, length, arith, ◌∙◌}
use Rattle.object_plan.proofs.CodeLemmas.{kept-last}
use Rattle.object_plan.proofs.sides.ends_kept.Goals as goal

pub returns : goal.returns
returns c =
    let some : 0 < length c.args.parts.now = omega (arith, c.if-count-eq0.false) in
    c.is_kept.ensures ∙ kept-last c.args.parts.now c.index-parts-count.result some c.index-parts-count.is
