use Rattle.std.proofs.Common.{◌<◌, ◌^◌, arith}
use Rattle.layout_model.specs.Parts.{part_bytes}
use Rattle.edit_parts.specs.Parts.{layout_part}
use Rattle.threshold_merge.proofs.PassLemmas.{small-test}
use Rattle.threshold_merge.proofs.merge.is_small.Goals as goal

pub returns-then-threshold-gt0 : goal.returns-then-threshold-gt0
returns-then-threshold-gt0 c =
    let narrow : c.args.page < 2 ^ 32 = omega (arith, c.ranges.page.fits) in
    let low : c.args.threshold < 2 ^ 32 = omega (arith, c.ranges.threshold.fits) in
    small-test c.args.page c.args.threshold (part_bytes (layout_part c.args.part.now)) c.bytes.result c.requires
    c.if-threshold-gt0.true narrow low c.bytes.ensures
