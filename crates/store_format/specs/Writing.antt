-- The pages of a store that belong to no object, written in order: first the directory of each
-- space, then the front pages, which are the superblock and the catalog.
use Rattle.std.specs.Prelude.{◌≡◌, ◌≢◌, ℕ, ◌+◌, ◌<◌, ◌≤◌, List}
use Rattle.geometry_model.specs.Numbers.{Numbers, pages}
use Rattle.geometry_model.specs.Pages.{directory_page}
use Rattle.tree_model.specs.Tree.{Pages}
use Rattle.image_model.specs.Super.{image_page}

-- the superblock and the catalog, the pages before the first directory
abbrev pub front_count : Numbers → ℕ
front_count n = 1 + n.catalog

-- the page is the directory of none of the first `count` spaces
abbrev pub IsNoDirectory : Numbers → ℕ → ℕ → Type 0
IsNoDirectory n count page = (s : ℕ) → s < count → page ≢ directory_page n s

-- The directories of the first `count` spaces hold these bytes, and every other page what it held.
pub record AreDirectories (n : Numbers) (directory : ℕ → List ℕ) (count : ℕ)
    (old now : Pages) : Type 0 where
  pub stand : (s : ℕ) → s < count → now (directory_page n s) ≡ directory s
  pub others : (page : ℕ) → IsNoDirectory n count page → now page ≡ old page

-- All was written: each directory holds these bytes, the front pages hold these ones, one
-- page after the other, and every other page what it held.
pub record IsStoreWritten (n : Numbers) (directory : ℕ → List ℕ) (bytes : List ℕ)
    (old now : Pages) : Type 0 where
  pub directories : (s : ℕ) → s < n.spaces → now (directory_page n s) ≡ directory s
  pub front : (page : ℕ) → page < front_count n → now page ≡ image_page n.page bytes page
  pub others : (page : ℕ) → page < pages n → front_count n ≤ page →
      IsNoDirectory n n.spaces page → now page ≡ old page

-- It was cut short: the directories of the first `done` spaces hold these bytes. What was written
-- then may hold anything, the next directory or, where none is left, the front pages. Every other
-- page holds what it held.
pub record IsCutShort (n : Numbers) (directory : ℕ → List ℕ) (old now : Pages) : Type 0 where
  pub done : ℕ
  pub within : done ≤ n.spaces
  pub stand : (s : ℕ) → s < done → now (directory_page n s) ≡ directory s
  pub others : (page : ℕ) → page < pages n → IsNoDirectory n (done + 1) page →
      (done ≡ n.spaces → front_count n ≤ page) → now page ≡ old page
