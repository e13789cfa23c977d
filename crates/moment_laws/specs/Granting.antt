-- What is said of runs of pages that are granted.
use Rattle.std.specs.Prelude.{◌≡◌, ℕ, ◌+◌, ◌<◌, Bool, false, Option, Some, None, List, ◌++◌}
use Rattle.std.specs.Prelude.{length, map}
use Rattle.std.specs.List.{AllByRecursion, flat_map}
use Rattle.geometry_model.specs.Numbers.{Numbers, space_pages}
use Rattle.geometry_model.specs.Pages.{IsInSpace, place}
use Rattle.block_model.specs.Block.{has_page}
use Rattle.layout_model.specs.declared.extent.Extent.{Extent}
use Rattle.layout_model.specs.Grants.{Spaces, Answer, space_at}
use Rattle.layout_model.specs.Grants.Answer.{Got}
use Rattle.layout_model.specs.Layout.{Grants}
use Rattle.moment_model.specs.Version.{uses}
use Rattle.moment_model.specs.Moment.{count_true}

-- tests of all pages of all spaces
pub record AreSpaces (n : Numbers) (spaces : Spaces) : Type 0 where
  pub count : length spaces ≡ n.spaces
  pub each : (s : ℕ) → s < n.spaces → length (space_at spaces s) ≡ space_pages n

-- the test at a place of a space, and no where there is no place
abbrev pub test_at : Spaces → Option (ℕ × ℕ) → Bool
test_at spaces None = false
test_at spaces (Some at) = has_page (space_at spaces at.0) at.1

-- is a page of the store among these ones? No page but a data page is
abbrev pub is_among : Numbers → Spaces → ℕ → Bool
is_among n spaces page = test_at spaces (place n page)

-- a run lies in one space
abbrev pub LiesInSpace : Numbers → Extent → Type 0
LiesInSpace n run = (s : ℕ) × IsInSpace n s run.page run.pages

-- These runs were taken out of the free pages, and these are left: each run lies in one space,
-- and each page that was free is left, or in one of the runs once.
pub record Took (n : Numbers) (free : Spaces) (runs : List Extent) (left : Spaces) : Type 0 where
  pub spaces : AreSpaces n left
  pub together : AllByRecursion (LiesInSpace n) runs
  pub once : (page : ℕ) → count_true (is_among n left page) + uses page runs
      ≡ count_true (is_among n free page)

-- a page as a run
abbrev pub page_run : ℕ → Extent
page_run page = record { page = page; pages = 1 }

-- all runs of a row of parts
abbrev pub runs_of_parts : List (List Extent) → List Extent
runs_of_parts parts = flat_map (λ runs. runs) parts

-- all that was granted for a change: the runs of its parts, and the pages of its nodes
abbrev pub granted_runs : Grants → List Extent
granted_runs grants = runs_of_parts grants.runs ++ map page_run grants.pages

-- what was granted, with the pages that are free after it
abbrev pub got_grants : Grants → Spaces → Answer Grants
got_grants grants left = Got grants left
