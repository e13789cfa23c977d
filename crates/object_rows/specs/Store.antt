-- The store of the rows, and two objects at work over it.
use Rattle.std.specs.Prelude.{◌≡◌, ℕ}
use Rattle.geometry_model.specs.Numbers.{Numbers}
use Rattle.object_body.specs.Places.{IsReady}
use Rattle.superdirectory.specs.Rest.{Rest}

-- pages of 256 bytes, one space of so many pages, 16 objects
abbrev pub numbers_of : ℕ → Numbers
numbers_of order = record { page = 256; order = order; spaces = 1; catalog = 1; threshold = 2 }

-- Both objects, the space and the pages of the port are of one such store.
pub record IsAtWork (hand other : Numbers) (rest : Rest) (page : ℕ) : Type 0 where
  pub order : ℕ
  pub in_hand : hand ≡ numbers_of order
  pub beside : other ≡ numbers_of order
  pub ready : IsReady (numbers_of order) rest
  pub sized : page ≡ 256
