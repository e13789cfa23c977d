-- The contents of pages in a row: a list of pages, each a list of its bytes.
use Rattle.std.specs.Prelude.{◌≡◌, ℕ, ◌+◌, ◌/◌, ◌%◌, ◌<◌, ◌≤◌, Bool, IsTrue, List, length, take}
use Rattle.std.specs.Prelude.{drop, All}
use Rattle.std.specs.List.{concat}

-- each page has `size` bytes
abbrev pub AreOf : ℕ → List (List ℕ) → Type 0
AreOf size pages = All (λ page. length page ≡ size) pages

-- where the pages are told, each has `size` bytes
abbrev pub IsSized : Bool → ℕ → List (List ℕ) → Type 0
IsSized told size pages = IsTrue told → AreOf size pages

-- n pages, from page number `from` of the row on
abbrev pub run : ℕ → ℕ → List (List ℕ) → List (List ℕ)
run from n pages = take n (drop from pages)

-- the bytes of these pages, in order
abbrev pub run_bytes : ℕ → ℕ → List (List ℕ) → List ℕ
run_bytes from n pages = concat (run from n pages)

-- `bytes` bytes are whole pages, at least one
pub record IsWhole (size bytes : ℕ) : Type 0 where
  pub some : 0 < bytes
  pub even : bytes % size ≡ 0

-- So many bytes are whole pages, and the pages from page `from` on of a row are as many: the row's
-- pages, where they are told, are of this size.
pub record FitsPages (told : Bool) (size from bytes : ℕ) (pages : List (List ℕ)) : Type 0 where
  pub whole : IsWhole size bytes
  pub range : from + bytes / size ≤ length pages
  pub sized : IsSized told size pages

-- the n pages from `from` on may differ, and all others are as before
pub record KeepsOthers (from n : ℕ) (old new : List (List ℕ)) : Type 0 where
  pub count : length new ≡ length old
  pub before : take from new ≡ take from old
  pub behind : drop (from + n) new ≡ drop (from + n) old
