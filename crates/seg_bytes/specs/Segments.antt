-- Segments whose pages are held, and how many of these pages a row of bytes touches.
use Rattle.std.specs.Prelude.{◌≡◌, ℕ, ◌+◌, ◌-◌, ◌%◌, ◌^◌, ◌<◌, IsTrue, List, [], ◌∷◌, min, nat_eq}
use Rattle.std.specs.Prelude.{if◌then◌else◌}
use Rattle.std.specs.List.{AllByRecursion}
use Rattle.tree_model.specs.declared.entry.Pair.{Pair}
use Rattle.tree_model.specs.declared.entry.Placed.{Placed}
use Rattle.tree_model.specs.Tree.{page_count}
use Rattle.span_store.specs.Held.{Held, HoldsRun, has}

-- the pages that so many bytes fill, from page `first` on, are held
abbrev pub HoldsBytes : Held → ℕ → ℕ → ℕ → Type 0
HoldsBytes held size first bytes = HoldsRun held first (page_count size bytes)

-- so it is with the pages of each segment
abbrev pub HoldsSegments : Held → ℕ → List Placed → Type 0
HoldsSegments held size segments = AllByRecursion
    (λ s. HoldsBytes held size s.pair.page s.pair.bytes) segments

-- the pages are held, and have numbers of 4 bytes
pub record HasBytes (held : Held) (size first bytes : ℕ) : Type 0 where
  pub run : HoldsBytes held size first bytes
  pub fits : first + page_count size bytes < 2 ^ 32

-- the pages of a segment are held, and no page that is held has the last number of 4 bytes
pub record HasSegment (held : Held) (size : ℕ) (p : Pair) : Type 0 where
  pub run : HoldsBytes held size p.page p.bytes
  pub numbers : (q : ℕ) → IsTrue (has held q) → q < 2 ^ 32 - 1

-- there is room for a page, and a page has bytes
pub record HasScratch (size room : ℕ) : Type 0 where
  pub page : room ≡ size
  pub some : 0 < size

-- the pages that have one of `count` bytes of a row of pages, from byte `skip` on
abbrev pub pages_touched : ℕ → ℕ → ℕ → ℕ
pages_touched size skip count = if nat_eq count 0 then 0 else page_count size (skip % size + count)

-- the pages that have one of `count` bytes of the content of entries, from byte `skip` on
abbrev pub touched : ℕ → List Pair → ℕ → ℕ → ℕ
touched size [] skip count = 0
touched size (p ∷ ps) skip count =
    pages_touched size skip (min count (p.bytes - skip)) + touched size ps (skip - p.bytes)
    (count - (p.bytes - skip))
