use Rattle.std.proofs.Common.{arith}
use Rattle.tree_splice.proofs.RunLemmas.{number_at-here, number_at-past, number_at-none}
use Rattle.tree_splice.proofs.touched.number_at.Goals as goal

pub loop-count-preserved : goal.loop-count-preserved
loop-count-preserved c =
    let before = c.loop-count.invariant.found in
    let past = number_at-past c.args.counts.now c.loop-count.count-index c.loop-count.left c.loop-count-test.true (omega arith) in
    record { number = omega arith; found = omega (arith, before, past) }

pub returns-then-left-count-clause-number : goal.returns-then-left-count-clause-number
returns-then-left-count-clause-number c =
    let before = c.loop-count.invariant.found in
    let here = number_at-here c.args.counts.now c.loop-count.count-index c.loop-count.left c.loop-count-test.true (omega arith) in
    omega (arith, before, here)

pub returns-clause-number : goal.returns-clause-number
returns-clause-number c =
    let before = c.loop-count.invariant.found in
    let none = number_at-none c.args.counts.now c.loop-count.count-index c.loop-count.left (omega arith) in
    omega (arith, before, none)
