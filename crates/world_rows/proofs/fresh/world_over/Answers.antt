-- The parts of a store in which nothing is used make a world.
use Rattle.std.proofs.Common.{sym, subst}
use Rattle.geometry_model.specs.Numbers.{Numbers}
use Rattle.world_rows.specs.Rows.{AreFreeSpaces}
use Rattle.world_rows.proofs.RowsLemmas.{roles-absent}
use Rattle.world_rows.proofs.fresh.world_over.Goals as goal

pub new-requires-3-clause-roles : goal.new-requires-3-clause-roles
new-requires-3-clause-roles g c = λ tell.
    roles-absent _ _ _ _ _
    (subst (λ (n : Numbers). AreFreeSpaces n c.in_ok-spaces.spaces.items) (sym c.requires.store) c.in_ok-spaces.ensures)
    c.requires.absent
