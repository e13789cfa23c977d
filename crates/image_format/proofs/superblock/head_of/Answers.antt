-- The bytes are those of the numbers, one after the other. An order is at most 14.
use Rattle.std.proofs.Common.{refl, arith}
use Rattle.image_model.specs.Super.{super_bytes}
use Rattle.image_format.proofs.superblock.head_of.Goals as goal
use Rattle.geometry_model.proofs.NumberLaws.{order-high}

pub overflow_cast-order : goal.overflow_cast-order
overflow_cast-order c = omega (arith, order-high c.args.geometry.now c.page.ensures.range, c.order-order.ensures)

pub returns-clause-bytes : goal.returns-clause-bytes
unfolding super_bytes
returns-clause-bytes c =
    rw (
      c.to_be_bytes.ensures,
      c.to_be_bytes-2.ensures,
      c.to_be_bytes-3.ensures,
      c.to_be_bytes-4.ensures,
      c.page.ensures.exact,
      c.spaces.ensures,
      c.catalog.ensures,
      c.threshold.ensures,
      c.order-order.ensures,
      c.requires,
    ) refl
