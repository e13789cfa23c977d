-- What a change of an object lets go.
use Rattle.std.specs.Prelude.{ℕ, Bool, ◌&&◌, nat_eq, nat_lt, Some}
use Rattle.geometry_model.specs.Numbers.{Numbers}
use Rattle.layout_model.specs.Layout.{Laid}
use Rattle.moment_model.specs.Moment.{ObjectSlot, either_uses}

-- the object with the tree and the spare that a change leaves
abbrev pub laid_slot : ObjectSlot → Laid → ObjectSlot
laid_slot slot after = record {
  committed = slot.committed;
  working = Some after.tree;
  spare =
      after.spare;
}

-- is the page one that the object used and uses no more?
abbrev pub is_let_go : Numbers → ℕ → ObjectSlot → ObjectSlot → Bool
is_let_go n page before after = nat_eq (either_uses n page after) 0 && nat_lt 0
    (either_uses n page before)
