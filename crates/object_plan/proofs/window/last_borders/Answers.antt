use Rattle.std.proofs.Common.{◌≡◌, ◌<◌, length, arith}
use Rattle.object_plan.proofs.ReadLemmas.{last-borders, none-met}
use Rattle.object_plan.proofs.window.last_borders.Goals as goal

pub returns-then-count-eq0 : goal.returns-then-count-eq0
returns-then-count-eq0 c =
    let none : length c.args.met.now ≡ 0 = omega (arith, c.if-count-eq0.true) in
    let borders = none-met c.args.met.now none in
    record { start = borders.0; end = borders.1 }

pub returns : goal.returns
returns c =
    let some : 0 < length c.args.met.now = omega (arith, c.if-count-eq0.false) in
    let borders = last-borders c.args.met.now c.requires.adjoined some in
    record { start = borders.0; end = borders.1 }
