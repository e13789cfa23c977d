-- The head of a node's page, place by place.
use Rattle.std.specs.Prelude.{◌≡◌, ℕ, ◌+◌, ◌*◌, ◌≤◌, List, length, drop, slice_index}
use Rattle.std.specs.Int.{w16, w32, from_be_bytes}

-- the first 8 bytes are those of a node with so many pairs, and the page has room for them
pub record IsHead (page : List ℕ) (count : ℕ) : Type 0 where
  pub long : 8 ≤ length page
  pub mark : slice_index page 0 ≡ 78
  pub level : 1 ≤ slice_index page 1
  pub counted : count ≡ from_be_bytes w16 (drop 2 page)
  pub zeros : from_be_bytes w32 (drop 4 page) ≡ 0
  pub some : 1 ≤ count
  pub room : 8 + 12 * count ≤ length page
