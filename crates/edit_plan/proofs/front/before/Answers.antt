use Rattle.std.proofs.Common.{◌<◌, sym, arith}
use Rattle.edit_plan.proofs.WindowLemmas.{before-some}
use Rattle.edit_plan.proofs.front.before.Goals as goal

pub returns-else-spot-eq0 : goal.returns-else-spot-eq0
returns-else-spot-eq0 c =
    let some : 0 < c.args.spot.ended = omega (arith, c.if-spot-eq0.false) in
    sym (before-some c.args.window.now c.args.spot.ended some c.requires)
