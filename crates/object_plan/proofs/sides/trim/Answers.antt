use Rattle.std.proofs.Common.{◌-◌, length, drop, ap, arith, ◌∙◌}
use Rattle.std.proofs.lemmas.List.{length-take}
use Rattle.moment_model.specs.Moment.{count_true}
use Rattle.object_plan.proofs.TrimLemmas.{trimmed-steps}
use Rattle.object_plan.proofs.sides.trim.Goals as goal

pub without_first-requires : goal.without_first-requires
without_first-requires c =
    let few = c.requires in
    let long = ap length c.without_last.ensures in
    let cut = length-take (length c.args.parts.now.items - count_true c.args.sides.back) c.args.parts.now.items in
    omega (arith, few, long, cut)

pub returns : goal.returns
returns c =
    c.without_first.ensures
    ∙ (ap (drop (count_true c.args.sides.front)) c.without_last.ensures
    ∙ trimmed-steps c.args.sides c.args.parts.now.items c.requires)
