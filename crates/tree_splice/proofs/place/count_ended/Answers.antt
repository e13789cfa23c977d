use Rattle.std.proofs.Common.{arith}
use Rattle.tree_splice.proofs.PlaceLemmas.{ended-here, ended-past, ended-none}
use Rattle.tree_splice.proofs.place.count_ended.Goals as goal

pub loop-pair-preserved : goal.loop-pair-preserved
loop-pair-preserved c =
    let before = c.loop-pair.invariant.found in
    let past = ended-past c.args.pairs.now c.loop-pair.pair-index c.loop-pair.left c.loop-pair-test.true (omega arith) in
    record { number = omega arith; found = omega (arith, before, past) }

pub returns-then-left-pair-clause-count : goal.returns-then-left-pair-clause-count
returns-then-left-pair-clause-count c =
    let before = c.loop-pair.invariant.found in
    let here = ended-here c.args.pairs.now c.loop-pair.pair-index c.loop-pair.left c.loop-pair-test.true (omega arith) in
    omega (arith, before, here)

pub returns-clause-count : goal.returns-clause-count
returns-clause-count c =
    let before = c.loop-pair.invariant.found in
    let none = ended-none c.args.pairs.now c.loop-pair.pair-index c.loop-pair.left (omega arith) in
    omega (arith, before, none)
