-- What a refused layout says.
use Rattle.std.specs.Prelude.{◌≡◌, ℕ, ◌*◌, ◌<◌, ◌≤◌}
use Rattle.geometry_model.specs.Numbers.{Numbers}
use Rattle.layout_model.specs.declared.extent.Extent.{Extent}
use Rattle.layout_model.specs.Grants.{Spaces, Answer, run_of}
use Rattle.layout_model.specs.Grants.Answer.{Refused}
use Rattle.layout_model.specs.Layout.{Grants}
use Rattle.moment_model.specs.Moment.{ObjectSlot}

-- what was refused: a run of so many pages, the grants of a change, an edit
abbrev pub refused_run : ℕ → Answer Extent
refused_run pages = Refused pages

abbrev pub refused_grants : ℕ → Answer Grants
refused_grants pages = Refused pages

abbrev pub refused_slot : ℕ → Answer ObjectSlot
refused_slot pages = Refused pages

-- A refusal names a number of pages, one at least and fewer than twice the threshold, for which
-- no space had a place among the pages that were free when it was asked.
pub record IsFewPages (n : Numbers) (start threshold pages : ℕ) : Type 0 where
  pub low : 1 ≤ pages
  pub high : pages < 2 * threshold
  pub no_place : (free : Spaces) × (run_of n start pages free ≡ refused_run pages)
