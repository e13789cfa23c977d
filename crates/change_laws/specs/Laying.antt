-- What a change has to be, and what is said of the tree and the spare that it leaves.
use Rattle.std.specs.Prelude.{◌≡◌, ℕ, ◌+◌, ◌<◌, ◌≤◌, true, Option, Some, List}
use Rattle.geometry_model.specs.Numbers.{Numbers}
use Rattle.layout_model.specs.declared.extent.Extent.{Extent}
use Rattle.layout_model.specs.declared.change.Change.{Change}
use Rattle.layout_model.specs.Layout.{Tree, Laid}
use Rattle.moment_model.specs.Version.{IsGood, tree_bytes, version_uses, uses, spare_uses}
use Rattle.change_laws.specs.Tail.{IsTail}

-- a change within a tree that removes or brings something; an append removes nothing, at the end
pub record IsChange (tree : Tree) (change : Change) : Type 0 where
  pub within : change.at + change.removed ≤ tree_bytes tree
  pub some : 0 < change.removed + change.added
  pub at_end : change.appends ≡ true → (change.at ≡ tree_bytes tree) × (change.removed ≡ 0)

-- What a change leaves is a good tree with its spare behind it. They use the pages that the old
-- tree and spare used, and those of these runs, each once.
pub record IsLaidOn (n : Numbers) (tree : Tree) (spare : Option Extent) (runs : List Extent)
    (after : Laid) : Type 0 where
  pub good : IsGood n after.tree
  pub tail : IsTail n (Some after.tree) after.spare
  pub within : (page : ℕ) → version_uses n page (Some after.tree) + spare_uses page
      after.spare ≤ version_uses n page (Some tree) + spare_uses page spare + uses page runs
  pub spare_within : (page : ℕ) → spare_uses page after.spare ≤ spare_uses page spare + uses page
      runs
