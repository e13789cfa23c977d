-- An order above 14 needs more than half of the largest page.
use Rattle.std.proofs.Common.{arith, ◌≤◌}
use Rattle.page_port.proofs.geometry.is_order.Goals as goal
use Rattle.page_port.proofs.geometry.is_order.Goals.{then-order-lt4-via-then-order-lt4, then-order-lt4-via-else-order-lt4+then-order-gt14}
use Rattle.geometry_model.proofs.NumberLaws.{order-at_most}

pub returns-then-order-lt4-clause-exact : goal.returns-then-order-lt4-clause-exact
returns-then-order-lt4-clause-exact c = (
  λ no. absurd (cc),
  λ h. let low : c.args.order ≤ 14 = order-at_most c.args.order c.args.page h.1 c.requires in
      absurd (elim c.then-order-lt4.branch [
        | then-order-lt4-via-then-order-lt4 w ↦ omega (arith, h.0)
        | then-order-lt4-via-else-order-lt4+then-order-gt14 w ↦ omega (arith, low)
      ]),
)
