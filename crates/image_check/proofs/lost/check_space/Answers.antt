-- The first page that is used and nobody's is the one that the definition names.
use Rattle.std.proofs.Common.{◌≡◌, ◌<◌, ◌+◌, ℕ, ap, subst, ◌∙◌, arith, rules, Some}
use Rattle.geometry_model.specs.Numbers.{space_pages}
use Rattle.geometry_model.specs.Pages.{data_page}
use Rattle.geometry_model.proofs.NumberLaws.{pages-high}
use Rattle.geometry_model.proofs.PageLaws.{data_page-below, directory_page-below}
use Rattle.image_model.specs.Checks.{check_space}
use Rattle.image_check.specs.declared.owner.Owner.TheVariants.{Nobody}
use Rattle.image_check.specs.declared.failure.CheckFail.TheVariants.{PageLost}
use Rattle.image_check.specs.Owners.{owner_at}
use Rattle.image_check.specs.Verdicts.{Judges}
use Rattle.image_check.proofs.LostLemmas.{space-judged, space-lost}
use Rattle.image_check.proofs.lost.check_space.Goals as goal

pub overflow_cast-space : goal.overflow_cast-space
overflow_cast-space c =
    let high = c.page-size.ensures.range.spaces_high in
    omega (arith, c.requires.space, high)

pub overflow_add-first : goal.overflow_add-first
overflow_add-first c =
    let below = directory_page-below c.args.geometry.now c.args.space c.requires.space in
    let high = pages-high c.args.geometry.now c.page-size.ensures.range in
    omega (arith, below, high, c.directory_page-first.ensures)

pub overflow_add-page : goal.overflow_add-page
overflow_add-page c =
    let at : c.loop-at.at < space_pages c.args.geometry.now = omega (arith, c.loop-at-test.true, c.space_pages-at-end.ensures.exact) in
    let below = data_page-below c.args.geometry.now c.args.space c.loop-at.at c.requires.space at in
    let high = pages-high c.args.geometry.now c.page-size.ensures.range in
    omega (arith, below, high, c.directory_page-first.ensures)

pub returns-then-eq-clause-judged : goal.returns-then-eq-clause-judged
returns-then-eq-clause-judged c = λ held marked.
    let n = c.args.geometry.now in
    let at : c.loop-at.at < space_pages n = omega (arith, c.loop-at-test.true, c.space_pages-at-end.ensures.exact) in
    let page : data_page n c.args.space c.loop-at.at ≡ c.directory_page-first.result + 1 + c.loop-at.at =
    omega (arith, c.directory_page-first.ensures) in
    let lost : owner_at c.args.walk.now (c.directory_page-first.result + 1 + c.loop-at.at) ≡ Nobody = search rules in
    subst (λ (p : ℕ). Judges n held c.args.walk.now c.args.walk.now (Some (PageLost p)) (λ bytes. check_space n bytes c.args.space)) page
    (space-lost n held c.args.walk.now c.args.space c.loop-at.at c.requires.space at marked c.loop-at.invariant.none
    (ap (owner_at c.args.walk.now) page ∙ lost))

pub returns-clause-judged : goal.returns-clause-judged
returns-clause-judged c = λ held marked.
    space-judged c.args.geometry.now held c.args.walk.now c.args.space c.requires.space marked
    (λ at inside. c.loop-at.invariant.none at (omega (arith, inside, c.loop-at-test.false, c.space_pages-at-end.ensures.exact)))
