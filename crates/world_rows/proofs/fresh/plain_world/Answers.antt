-- Each object is absent.
use Rattle.world_rows.proofs.RowsLemmas.{absent-none}
use Rattle.world_rows.proofs.fresh.plain_world.Goals as goal

pub adds-init : goal.adds-init
adds-init c = rw c.new-objects.ensures.items (absent-none _ _)
