-- One pair of 100 bytes more.
use Rattle.std.proofs.Common.{◌≤◌, arith}
use Rattle.splice_rows.proofs.PairLemmas.{more-bytes, more-some}
use Rattle.splice_rows.proofs.store.pairs_of.Goals as goal

pub loop-i-preserved : goal.loop-i-preserved
loop-i-preserved c =
    let one : 1 ≤ 100 = omega arith in
    let sum = more-bytes _ _ _ c.in_ok-push.ensures.ok in
    let before = c.loop-i.invariant.bytes in
    record {
      bytes = omega (arith, sum, before);
      some = more-some _ _ _ c.in_ok-push.ensures.ok one c.loop-i.invariant.some;
    }
