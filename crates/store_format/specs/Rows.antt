-- Pages in a row, by their numbers.
use Rattle.std.specs.Prelude.{◌≡◌, ℕ, ◌+◌, ◌<◌, ◌≤◌, Bool, List, [], length, slice_index_or}
use Rattle.tree_model.specs.Tree.{Pages}
use Rattle.page_port.specs.Pages.{IsSized}

-- what each page of a row holds: nothing where it has none of this number
abbrev pub row_page : List (List ℕ) → Pages
row_page pages page = slice_index_or pages page []

-- as many pages, of the same size where they are told
pub record KeepsShape (tells : Bool) (size : ℕ) (old new : List (List ℕ)) : Type 0 where
  pub count : length new ≡ length old
  pub sized : IsSized tells size new

-- all pages but the n from `from` on hold what they held
pub record KeepsPagesBut (from n : ℕ) (old now : Pages) : Type 0 where
  pub before : (page : ℕ) → page < from → now page ≡ old page
  pub behind : (page : ℕ) → from + n ≤ page → now page ≡ old page
