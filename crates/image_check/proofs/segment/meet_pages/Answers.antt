-- The pages are met one after the other.
use Rattle.std.proofs.Common.{◌≡◌, ◌∙◌, ◌<◌, ◌+◌, ◌-◌, ℕ, Some, None, sym, ap, subst, take, length, arith}
use Rattle.std.specs.List.{range_with_len}
use Rattle.std.proofs.lemmas.List.FromFn.{length-range_with_len}
use Rattle.geometry_model.proofs.NumberLaws.{pages-high}
use Rattle.image_model.specs.Checks.{each, meet}
use Rattle.image_laws.proofs.NodeLemmas.{data-below}
use Rattle.image_check.specs.Owners.{KeptWalk}
use Rattle.image_check.specs.Verdicts.{Judged}
use Rattle.image_check.proofs.EachLemmas.{Judged-all, Judged-ends}
use Rattle.image_check.proofs.JudgedLemmas.{Judged-err}
use Rattle.image_check.proofs.OwnerLemmas.{length-met}
use Rattle.image_check.proofs.SegmentLemmas.{Judged-page, run-below, run-data}
use Rattle.image_check.proofs.segment.meet_pages.Goals as goal

pub overflow_add-page-end : goal.overflow_add-page-end
overflow_add-page-end c =
    let below = run-below c.args.geometry.now c.args.first c.args.count c.requires.space in
    let high = pages-high c.args.geometry.now c.page-size.ensures.range in
    omega (arith, below, high)

pub meet-requires-clause-within : goal.meet-requires-clause-within
meet-requires-clause-within c =
    let low = c.loop-page.auto.page in
    let on = run-data c.args.geometry.now c.args.first c.args.count c.loop-page.page c.requires.space (omega (arith, low))
    c.loop-page-test.true in
    subst (λ (k : ℕ). c.loop-page.page < k) (sym c.loop-page.invariant.count) (data-below c.args.geometry.now c.loop-page.page on)

pub returns-in_err-meet-clause-count : goal.returns-in_err-meet-clause-count
returns-in_err-meet-clause-count c =
    ap (λ (kept : KeptWalk). length kept.owners) c.in_err-meet.ensures.walk
    ∙ length-met c.loop-page.page c.args.object c.loop-page.walk ∙ c.loop-page.invariant.count

pub returns-in_err-meet-clause-judged : goal.returns-in_err-meet-clause-judged
returns-in_err-meet-clause-judged c = λ held marked.
    let n = c.args.geometry.now in
    let i = c.loop-page.page - c.args.first in
    let low = c.loop-page.auto.page in
    let high = c.loop-page-test.true in
    let fail = c.in_err-meet.field-0.0 in
    Judged-err (Unit {0}) n held c.args.object c.args.walk.now c.meet.new.self c.from_residual.result fail
    (λ bytes. each (meet n bytes) (range_with_len c.args.first c.args.count)) c.from_residual.ensures.1
    (Judged-ends ℕ (Unit {0}) n held c.args.object c.args.walk.now c.meet.new.self fail (λ bytes page. meet n bytes page)
    (range_with_len c.args.first c.args.count) (i + 1)
    (Judged-page (Unit {0}) n held c.args.object c.args.first c.args.count i c.loop-page.page c.args.walk.now c.loop-page.walk
    c.meet.new.self
    (Some fail) (omega (arith, low, high)) (omega (arith, low)) c.requires.space (c.loop-page.invariant.judged held marked)
    c.in_err-meet.ensures.answer c.in_err-meet.ensures.walk))

pub loop-page-preserved : goal.loop-page-preserved
loop-page-preserved c =
    let n = c.args.geometry.now in
    let i = c.loop-page.page - c.args.first in
    let low = c.loop-page.auto.page in
    let high = c.loop-page-test.true in
    let next : i + 1 ≡ c.loop-page.page + 1 - c.args.first = omega (arith, low) in
    record {
      count = ap (λ (kept : KeptWalk). length kept.owners) c.in_ok-meet.ensures.walk
          ∙ length-met c.loop-page.page c.args.object c.loop-page.walk ∙ c.loop-page.invariant.count;
      judged = λ held marked. subst (λ (k : ℕ). Judged (Unit {0}) n held c.args.object c.args.walk.now c.meet.new.self None
          (λ bytes. each (meet n bytes) (take k (range_with_len c.args.first c.args.count)))) next
          (Judged-page (Unit {0}) n held c.args.object c.args.first c.args.count i c.loop-page.page c.args.walk.now c.loop-page.walk
          c.meet.new.self None (omega (arith, low, high)) (omega (arith, low)) c.requires.space
          (c.loop-page.invariant.judged held marked) c.in_ok-meet.ensures.answer c.in_ok-meet.ensures.walk);
    }

pub returns-clause-judged : goal.returns-clause-judged
returns-clause-judged c = λ held marked.
    let low = c.loop-page.auto.page in
    let behind = c.loop-page-test.false in
    let count = length-range_with_len c.args.first c.args.count in
    Judged-all ℕ (Unit {0}) c.args.geometry.now held c.args.object c.args.walk.now c.loop-page.walk
    (λ bytes page. meet c.args.geometry.now bytes page) (range_with_len c.args.first c.args.count) (c.loop-page.page - c.args.first)
    (omega (arith, low, behind, count)) (c.loop-page.invariant.judged held marked)
