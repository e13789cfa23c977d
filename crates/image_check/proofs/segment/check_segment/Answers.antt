-- The checks of a segment are those of the definition.
use Rattle.std.proofs.Common.{◌∙◌, ℕ, None, IsTrue, length, sym, subst, ap}
use Rattle.geometry_model.specs.Pages.{place}
use Rattle.image_model.specs.Checks.{check_segment, fits_after, is_in_space}
use Rattle.image_check.specs.Owners.{KeptWalk}
use Rattle.image_check.specs.Verdicts.{Judged}
use Rattle.image_check.proofs.JudgedLemmas.{Judged-err}
use Rattle.image_check.proofs.SegmentLemmas.{segment-fits, segment-space, segment-unfit, segment-unmet}
use Rattle.image_check.proofs.segment.check_segment.Goals as goal

pub meet_pages-requires-clause-space : goal.meet_pages-requires-clause-space
meet_pages-requires-clause-space c =
    subst (λ (k : ℕ). IsTrue (is_in_space c.args.geometry.now (place c.args.geometry.now c.args.pair.page) k)) (sym c.in-Some.ensures.1)
    (segment-space c.args.geometry.now c.args.pair c.in-Some.ensures.0)

pub returns-in_err-meet_pages-clause-judged : goal.returns-in_err-meet_pages-clause-judged
returns-in_err-meet_pages-clause-judged c = λ held marked.
    let n = c.args.geometry.now in
    let fail = c.in_err-meet_pages.field-0.0 in
    Judged-err (Unit {0}) n held c.args.tree.object c.args.walk.now c.meet_pages.new.walk c.from_residual.result fail
    (λ bytes. check_segment n bytes c.args.tree.object c.args.tree.threshold c.args.pair) c.from_residual.ensures.1
    (segment-unmet (Unit {0}) n held c.args.tree.object c.args.tree.threshold c.in-Some.count c.args.pair c.args.walk.now
    c.meet_pages.new.walk fail marked c.in-Some.ensures.0 c.in-Some.ensures.1 (c.in_err-meet_pages.ensures.judged held marked))

pub returns-then-not-fits_after-clause-judged : goal.returns-then-not-fits_after-clause-judged
returns-then-not-fits_after-clause-judged c = λ held marked.
    segment-unfit (Unit {0}) c.args.geometry.now held c.args.tree.object c.args.tree.threshold c.in-Some.count c.args.pair c.args.walk.now
    c.meet_pages.new.walk marked c.in-Some.ensures.0 c.in-Some.ensures.1 (c.in_ok-meet_pages.ensures.judged held marked)
    (sym (c.fits_after.ensures ∙ ap (λ before. fits_after c.args.geometry.now c.args.tree.threshold before c.args.pair)
    c.before-before.ensures)
    ∙ c.if-not-fits_after.true)

pub returns-clause-count : goal.returns-clause-count
returns-clause-count c = ap (λ (kept : KeptWalk). length kept.owners) c.set_before.ensures ∙ c.in_ok-meet_pages.ensures.count

pub returns-clause-judged : goal.returns-clause-judged
returns-clause-judged c = λ held marked.
    subst (λ (kept : KeptWalk). Judged (Unit {0}) c.args.geometry.now held c.args.tree.object c.args.walk.now kept None
    (λ bytes. check_segment c.args.geometry.now bytes c.args.tree.object c.args.tree.threshold c.args.pair)) (sym c.set_before.ensures)
    (segment-fits (Unit {0}) c.args.geometry.now held c.args.tree.object c.args.tree.threshold c.in-Some.count c.args.pair c.args.walk.now
    c.meet_pages.new.walk marked c.in-Some.ensures.0 c.in-Some.ensures.1 (c.in_ok-meet_pages.ensures.judged held marked)
    (sym (c.fits_after.ensures ∙ ap (λ before. fits_after c.args.geometry.now c.args.tree.threshold before c.args.pair)
    c.before-before.ensures)
    ∙ c.if-not-fits_after.false))
