-- The five numbers are those that the bytes say.
use Rattle.std.proofs.Common.{◌≡◌, subst, sym, ap, ◌∙◌}
use Rattle.geometry_model.specs.Numbers.{IsInRange, is_in_range}
use Rattle.geometry_model.proofs.NumberLaws.{is_in_range-true}
use Rattle.image_model.specs.Super.{numbers_in}
use Rattle.image_format.proofs.SuperLemmas.{numbers-read, out-of-range}
use Rattle.image_format.proofs.superblock.numbers_at.Goals as goal

pub returns-in_default : goal.returns-in_default
returns-in_default c =
    let read = numbers-read c.args.bytes.now c.u32_at.result c.from-order.result c.from-spaces.result
    c.from-catalog.result c.from-threshold.result
    c.u32_at.ensures c.from-order.ensures (c.from-spaces.ensures ∙ c.u16_at.ensures) (c.from-catalog.ensures ∙ c.u16_at-2.ensures)
    (c.from-threshold.ensures ∙ c.u16_at-3.ensures) in
    out-of-range (numbers_in c.args.bytes.now) (λ range. c.in_default.ensures (subst IsInRange (sym read) range))

pub returns : goal.returns
returns c =
    let read = numbers-read c.args.bytes.now c.u32_at.result c.from-order.result c.from-spaces.result
    c.from-catalog.result c.from-threshold.result
    c.u32_at.ensures c.from-order.ensures (c.from-spaces.ensures ∙ c.u16_at.ensures) (c.from-catalog.ensures ∙ c.u16_at-2.ensures)
    (c.from-threshold.ensures ∙ c.u16_at-3.ensures) in
    let same : c.in-Some.geometry ≡ numbers_in c.args.bytes.now = c.in-Some.ensures ∙ read in
    (ap is_in_range (sym same) ∙ is_in_range-true c.in-Some.geometry c.page-page.ensures.range, same)
