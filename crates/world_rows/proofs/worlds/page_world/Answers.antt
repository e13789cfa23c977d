-- Each object is absent.
use Rattle.std.proofs.Common.{ap}
use Rattle.body_double.specs.Page.{PageView}
use Rattle.world_rows.proofs.RowsLemmas.{absent-none}
use Rattle.world_rows.proofs.worlds.page_world.Goals as goal

pub adds-init : goal.adds-init
adds-init c = rw c.new-objects.ensures.items (absent-none _ _)

pub adds-preserved : goal.adds-preserved
adds-preserved c =
    c.in-Ok.ensures c.in_ok-geometry.geometry (ap (λ (v : PageView). v.numbers) c.new-body.ensures) c.adds.invariant
