-- The room that a walk works in: a page, and a node for each level.
use Rattle.std.specs.Prelude.{◌≡◌, ℕ, ◌≤◌, All, length, vec_len, vec_capacity}
use Rattle.tree_model.specs.Node.{room_of}
use Rattle.image_check.specs.declared.path.Path.{Path}

-- room for one page of this size, and for the nodes of so many levels, each as large as a page
-- can hold
pub record IsPrepared (size levels : ℕ) (path : Path) : Type 0 where
  pub page : length path.page.items ≡ size
  pub levels_fit : levels ≤ vec_len path.nodes
  pub each : All (λ node. room_of size ≤ node.pairs.room) path.nodes.items

-- the room is as before
pub record KeepsRoom (size : ℕ) (old new : Path) : Type 0 where
  pub page : length new.page.items ≡ length old.page.items
  pub count : vec_len new.nodes ≡ vec_len old.nodes
  pub capacity : vec_capacity new.nodes ≡ vec_capacity old.nodes
  pub each : All (λ node. room_of size ≤ node.pairs.room) new.nodes.items
