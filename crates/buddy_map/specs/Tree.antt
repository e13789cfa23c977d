-- The tree of masks of a space: the space, its halves, their halves, down to single pages, and for
-- each of them one number that says which orders the maximal blocks inside it have. What a block
-- is stands in block_model.
use Rattle.std.specs.Prelude.{◌≡◌, ℕ, zero, suc, ◌+◌, ◌*◌, ◌-◌, ◌/◌, ◌^◌, ◌<◌, ◌≤◌, ◌⊎◌, Bool}
use Rattle.std.specs.Prelude.{◌&&◌, if◌then◌else◌, nat_eq, List, length, slice_index, bit_or}
use Rattle.block_model.specs.Block.{has_page, IsMaximal}

-- the mask of two halves that have 2 ^ order = `half` pages each: both free are one block
abbrev pub joined_mask : ℕ → ℕ → ℕ → ℕ
joined_mask half left right =
    if nat_eq left half && nat_eq right half then 2 * half else bit_or left right

-- the mask of part `number` of those that have 2 ^ order pages each: bit i says that a block of
-- order i lies in it, and in no larger one that does
unfoldable pub mask_of : List Bool → ℕ → ℕ → ℕ
mask_of free zero number = if has_page free number then 1 else 0
mask_of free (suc order) number =
    joined_mask (2 ^ order) (mask_of free order (2 * number)) (mask_of free order (2 * number + 1))

-- the masks of a space of 2 ^ whole pages: at 2 ^ depth + number that of part `number` of its
-- 2 ^ depth parts
pub record AreMasks (free : List Bool) (whole : ℕ) (masks : List ℕ) : Type 0 where
  pub small : whole ≤ 14
  pub pages : length free ≡ 2 ^ whole
  pub size : length masks ≡ 2 * 2 ^ whole
  pub each : (depth number : ℕ) → depth ≤ whole → number < 2 ^ depth →
      slice_index masks (2 ^ depth + number) ≡ mask_of free (whole - depth) number

-- the part has none of the n pages from `first` on
abbrev pub IsAside : ℕ → ℕ → ℕ → ℕ → Type 0
IsAside first n order number =
    (number < first / 2 ^ order) ⊎ ((first + n - 1) / 2 ^ order < number)

-- the masks of all parts that have none of these pages, or fewer than 2 ^ order pages
pub record IsMended (free : List Bool) (whole first n order : ℕ) (masks : List ℕ) : Type 0 where
  pub size : length masks ≡ 2 * 2 ^ whole
  pub each : (depth number : ℕ) → depth ≤ whole → number < 2 ^ depth →
      (whole - depth < order) ⊎ IsAside first n (whole - depth) number →
      slice_index masks (2 ^ depth + number) ≡ mask_of free (whole - depth) number

-- the lowest maximal block of an order
pub record IsLeftmost (free : List Bool) (order number : ℕ) : Type 0 where
  pub maximal : IsMaximal free order number
  pub lowest : (r : ℕ) → IsMaximal free order r → number ≤ r
