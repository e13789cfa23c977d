-- The next free page of a space.
use Rattle.std.specs.Prelude.{◌≡◌, ℕ, ◌<◌, ◌≤◌, Bool, true, false, List, length, Option, Some, None}
use Rattle.block_model.specs.Block.{has_page}

-- the first page from place `from` on that is free, and none where there is none
abbrev pub IsNextFree : List Bool → ℕ → Option ℕ → Type 0
IsNextFree free from (Some at) =
    (from ≤ at) × (at < length free) × (has_page free at ≡ true)
    × ((page : ℕ) → from ≤ page → page < at → has_page free page ≡ false)
IsNextFree free from None = (page : ℕ) → from ≤ page → has_page free page ≡ false
