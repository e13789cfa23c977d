-- The threshold is at most half of a space, and a space has at most 16,384 pages.
use Rattle.std.proofs.Common.{arith}
use Rattle.geometry_model.proofs.NumberLaws.{space_pages-high}
use Rattle.image_format.proofs.entry.store_threshold.Goals as goal

pub overflow_cast-result : goal.overflow_cast-result
overflow_cast-result c =
    let range = c.page-page.ensures.range in
    omega (arith, range.threshold_high, space_pages-high c.args.geometry.now range)
