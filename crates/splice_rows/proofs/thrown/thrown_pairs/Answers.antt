-- One pair of 300 bytes at most more.
use Rattle.std.proofs.Common.{◌+◌, ◌≤◌, arith}
use Rattle.splice_rows.proofs.PairLemmas.{more-bytes, more-some}
use Rattle.splice_rows.proofs.thrown.thrown_pairs.Goals as goal

pub loop-i-preserved : goal.loop-i-preserved
loop-i-preserved c =
    let thrown = c.thrown.ensures in
    let one : 1 ≤ c.thrown.result + 1 = omega arith in
    let sum = more-bytes _ _ _ c.in_ok-push.ensures.ok in
    let before = c.loop-i.invariant.bytes in
    record {
      bytes = omega (arith, sum, before, thrown);
      some = more-some _ _ _ c.in_ok-push.ensures.ok one c.loop-i.invariant.some;
    }
