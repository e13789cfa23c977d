-- The first space with a lost page, or none.
use Rattle.std.proofs.Common.{sym, subst, arith, Option}
use Rattle.std.specs.List.{range_with_len}
use Rattle.image_model.specs.Checks.{check_space, each}
use Rattle.image_check.specs.declared.failure.CheckFail.{CheckFail}
use Rattle.image_check.specs.Verdicts.{Judges}
use Rattle.image_check.proofs.JudgedLemmas.{err-passed}
use Rattle.image_check.proofs.LostLemmas.{store-judged, store-lost}
use Rattle.image_check.proofs.lost.check_lost.Goals as goal

pub returns-in_err-check_space-clause-judged : goal.returns-in_err-check_space-clause-judged
returns-in_err-check_space-clause-judged c = λ held marked.
    let n = c.args.geometry.now in
    let fail = c.in_err-check_space.field-0.0 in
    subst (λ (x : Option CheckFail). Judges n held c.args.walk.now c.args.walk.now x
    (λ bytes. each (check_space n bytes) (range_with_len 0 n.spaces)))
    (sym (err-passed c.from_residual.result fail c.from_residual.ensures.1))
    (store-lost n held c.args.walk.now c.loop-space.space fail
    (omega (arith, c.loop-space-test.true, c.spaces-space-end.ensures)) marked c.loop-space.invariant.none
    (c.in_err-check_space.ensures.judged held marked))

pub returns-clause-judged : goal.returns-clause-judged
returns-clause-judged c = λ held marked.
    store-judged c.args.geometry.now held c.args.walk.now marked
    (λ s inside. c.loop-space.invariant.none s (omega (arith, inside, c.loop-space-test.false, c.spaces-space-end.ensures)))
