-- The directory page of a space, read back: the pages that its bitmap has, and whether the page
-- is theirs.
use Rattle.std.specs.Prelude.{ℕ, ◌/◌, Bool, List, take, drop}
use Rattle.std.specs.Str.{bytes_eq}
use Rattle.geometry_model.specs.Numbers.{Numbers, space_pages}
use Rattle.block_model.specs.Bitmap.{unpacked}
use Rattle.block_model.specs.Directory.{directory_page as directory_bytes}

-- the free pages by the bitmap on a page
unfoldable pub free_bits : Numbers → List ℕ → List Bool
free_bits n page = unpacked (take (space_pages n / 8) (drop 16 page))

-- is it the directory page of space s?
abbrev pub is_directory : Numbers → ℕ → List ℕ → Bool
is_directory n s page = bytes_eq page (directory_bytes n.page s (free_bits n page))
