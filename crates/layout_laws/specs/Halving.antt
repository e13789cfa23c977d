-- What is said of the runs of a part.
use Rattle.std.specs.Prelude.{◌≡◌, ℕ, ◌+◌, ◌≤◌, List, [], ◌∷◌}
use Rattle.layout_model.specs.declared.extent.Extent.{Extent}
use Rattle.layout_model.specs.Grants.{Spaces, Answer}
use Rattle.layout_model.specs.Grants.Answer.{Got}

-- runs that were granted, with the pages that are free after them
abbrev pub got_runs : List Extent → Spaces → Answer (List Extent)
got_runs runs left = Got runs left

-- the pages of all runs
abbrev pub runs_pages : List Extent → ℕ
runs_pages [] = 0
runs_pages (run ∷ rest) = run.pages + runs_pages rest

-- each run has so many pages or more
abbrev pub AreLong : ℕ → List Extent → Type 0
AreLong least [] = Unit {0}
AreLong least (run ∷ rest) = (least ≤ run.pages) × AreLong least rest

-- runs of so many pages together, each with the threshold's or more
pub record AreHalves (threshold pages : ℕ) (runs : List Extent) : Type 0 where
  pub together : runs_pages runs ≡ pages
  pub long : AreLong threshold runs
