-- The order of a space is at most 14.
use Rattle.page_port.proofs.geometry.Geometry.space_pages.Goals as goal
use Rattle.geometry_model.proofs.NumberLaws.{order-high}

pub power_of_two-requires : goal.power_of_two-requires
power_of_two-requires c = order-high _ c.self.invariant
