-- The directory page of a space, every byte of it.
use Rattle.std.specs.Prelude.{ℕ, ◌+◌, ◌-◌, ◌/◌, Bool, List, ◌++◌, length, replicate, codes}
use Rattle.std.specs.Int.{w32, to_be_bytes}
use Rattle.block_model.specs.Block.{count_of}
use Rattle.block_model.specs.Bitmap.{packed}

-- the mark, the number of the space, how many pages are free, a zero, the bitmap of the free
-- pages, and zeros
abbrev pub directory_page : ℕ → ℕ → List Bool → List ℕ
directory_page size space free =
    codes "DIR1" ++ (to_be_bytes w32 space ++ (to_be_bytes w32 (count_of free) ++ (replicate 4 0
    ++ (packed (length free / 8) free ++ replicate (size - (16 + length free / 8)) 0))))
