-- The counts of a space.
use Rattle.std.specs.Prelude.{◌≡◌, ℕ}
use Rattle.block_model.specs.Block.{count_of}
use Rattle.space_directory.specs.SpaceView.{SpaceView}

-- so many pages of the space are free, and so many locked
pub record IsCounted (v : SpaceView) (free locked : ℕ) : Type 0 where
  pub free_pages : free ≡ count_of v.free
  pub locked_pages : locked ≡ count_of v.locked
