-- Room to write a node.
use Rattle.std.specs.Prelude.{◌≡◌, ℕ, ◌≤◌, vec_len}
use Rattle.tree_model.specs.Node.{room_of}
use Rattle.tree_splice.specs.declared.scratch.Scratch.{Scratch}

-- there is room for a page of this size and for its node
pub record IsPrepared (size : ℕ) (s : Scratch) : Type 0 where
  pub page : vec_len s.page ≡ size
  pub node : room_of size ≤ s.node.pairs.room
