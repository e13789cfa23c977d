-- The segments are checked one after the other.
use Rattle.std.proofs.Common.{◌+◌, Some, None, arith}
use Rattle.tree_model.specs.declared.entry.Pair.{Pair}
use Rattle.image_model.specs.Checks.{check_segment, each}
use Rattle.image_check.proofs.EachLemmas.{Judged-all, Judged-ends, Judged-next}
use Rattle.image_check.proofs.JudgedLemmas.{Judged-err}
use Rattle.image_check.proofs.segment.check_segments.Goals as goal

abbrev none : Pair
none = record { bytes = 0; page = 0 }

pub returns-in_err-check_segment-clause-judged : goal.returns-in_err-check_segment-clause-judged
returns-in_err-check_segment-clause-judged c = λ held marked.
    let n = c.args.geometry.now in
    let o = c.args.tree.object in
    let t = c.args.tree.threshold in
    let i = c.loop-pair.pair-index in
    let fail = c.in_err-check_segment.field-0.0 in
    let before = c.loop-pair.invariant.judged held marked in
    Judged-err (Unit {0}) n held o c.args.walk.now c.check_segment.new.walk c.from_residual.result fail
    (λ bytes. each (check_segment n bytes o t) c.args.pairs.now) c.from_residual.ensures.1
    (Judged-ends Pair (Unit {0}) n held o c.args.walk.now c.check_segment.new.walk fail (λ bytes. check_segment n bytes o t)
    c.args.pairs.now (i + 1)
    (Judged-next Pair (Unit {0}) n held o c.args.walk.now c.loop-pair.walk c.check_segment.new.walk (Some fail)
    (λ bytes. check_segment n bytes o t) c.args.pairs.now i none c.loop-pair-test.true before
    (c.in_err-check_segment.ensures.judged held before.marked)))

pub loop-pair-preserved : goal.loop-pair-preserved
loop-pair-preserved c =
    let n = c.args.geometry.now in
    let o = c.args.tree.object in
    let t = c.args.tree.threshold in
    let i = c.loop-pair.pair-index in
    record {
      count = c.in_ok-check_segment.ensures.count;
      judged = λ held marked.
          let before = c.loop-pair.invariant.judged held marked in
          Judged-next Pair (Unit {0}) n held o c.args.walk.now c.loop-pair.walk c.check_segment.new.walk None
          (λ bytes. check_segment n bytes o t) c.args.pairs.now i none c.loop-pair-test.true before
          (c.in_ok-check_segment.ensures.judged held before.marked);
    }

pub returns-clause-judged : goal.returns-clause-judged
returns-clause-judged c = λ held marked.
    let n = c.args.geometry.now in
    let o = c.args.tree.object in
    let t = c.args.tree.threshold in
    Judged-all Pair (Unit {0}) n held o c.args.walk.now c.loop-pair.walk (λ bytes. check_segment n bytes o t) c.args.pairs.now
    c.loop-pair.pair-index (omega (arith, c.loop-pair-test.false)) (c.loop-pair.invariant.judged held marked)
