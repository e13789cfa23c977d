-- The pages that a store grants: its free pages by space, the first space that has a place, and
-- rows of grants that are all given or refused together.
use Rattle.std.specs.Prelude.{ℕ, zero, suc, ◌+◌, ◌-◌, ◌*◌, ◌/◌, Bool, true, false, Option, Some}
use Rattle.std.specs.Prelude.{None, List, [], ◌∷◌, ◌++◌, length, nat_lt, slice_index_or}
use Rattle.std.specs.Prelude.{slice_set}
use Rattle.std.specs.List.{range_with_len}
use Rattle.geometry_model.specs.Numbers.{Numbers}
use Rattle.geometry_model.specs.Pages.{data_page}
use Rattle.block_model.specs.Block.{with_run}
use Rattle.block_model.specs.Place.{place}
use Rattle.layout_model.specs.declared.extent.Extent.{Extent}
use Rattle.layout_model.specs.declared.request.Request.{Request}

-- the free pages of a store: for each space a test of each of its pages
abbrev pub Spaces : Type 0
Spaces = List (List Bool)

abbrev pub space_at : Spaces → ℕ → List Bool
space_at spaces s = slice_index_or spaces s []

-- the numbers of the spaces, from `start` on and around
abbrev pub around : ℕ → ℕ → List ℕ
around start count = range_with_len start (count - start) ++ range_with_len 0 start

-- a space and a place in it
pub record Spot : Type 0 where
  pub space : ℕ
  pub at : ℕ

-- the first of these spaces that has a place for n pages, and that place
abbrev pub spot_in : Spaces → ℕ → List ℕ → Option Spot
spot_in spaces n [] = None
spot_in spaces n (s ∷ rest) =
    elim (place (space_at spaces s) n) [
      | Some at ↦ Some (record { space = s; at = at })
      | None ↦ spot_in spaces n rest
    ]

-- the spaces without the n pages at a spot
abbrev pub without : Spaces → Spot → ℕ → Spaces
without spaces spot n = slice_set spaces spot.space
    (with_run (space_at spaces spot.space) spot.at n false)

-- what is granted, with the pages that are free after it; or the pages that no space had a place
-- for
pub data Answer (A : Type 0) : Type 0 where
  Got : (value : A) → (left : Spaces) → Answer A
  Refused : (pages : ℕ) → Answer A

-- one row of grants after another, or the refusal of the first that is refused
abbrev pub and_then : {A B : Type 0} → Answer A → (A → Spaces → Answer B) → Answer B
and_then (Got value left) next = next value left
and_then (Refused pages) next = Refused pages

-- another row of grants where the first is refused
abbrev pub or_else : {A : Type 0} → Answer A → (ℕ → Answer A) → Answer A
or_else (Got value left) other = Got value left
or_else (Refused pages) other = other pages

-- a run of n pages: the spaces are tried in turn, space `start` first and around, and the first
-- with room gives it
abbrev pub run_of : Numbers → ℕ → ℕ → Spaces → Answer Extent
run_of n start pages spaces =
    elim (spot_in spaces pages (around start (length spaces))) [
      | Some spot ↦ Got (record { page = data_page n spot.space spot.at; pages = pages })
          (without spaces spot pages)
      | None ↦ Refused pages
    ]

abbrev pub only : Extent → Spaces → Answer (List Extent)
only run left = Got (run ∷ []) left

-- The runs of a part of so many pages: one, or where no space has a place for it those of its
-- first half, the larger one, and of its other half, as long as it has twice the threshold or
-- more. (`steps` bounds the depth of halving; the number of pages is enough.)
abbrev pub halved : ℕ → Numbers → ℕ → ℕ → ℕ → Spaces → Answer (List Extent)
halved zero n start threshold pages spaces = Refused pages
halved (suc steps) n start threshold pages spaces =
    or_else (and_then (run_of n start pages spaces) only) (λ refused.
    elim (nat_lt pages (2 * threshold)) [
      | true ↦ Refused pages
      | false ↦
          and_then (halved steps n start threshold ((pages + 1) / 2) spaces) (λ first left.
          and_then (halved steps n start threshold (pages / 2) left)
          (λ second rest. Got (first ++ second) rest))
    ])

-- the runs of one part: the wish as one run, or else the need, halved where it must be
abbrev pub part_runs : Numbers → ℕ → ℕ → Request → Spaces → Answer (List Extent)
part_runs n start threshold request spaces =
    or_else (and_then (run_of n start request.want spaces) only)
    (λ refused. halved request.need n start threshold request.need spaces)

-- the runs of all parts, from left to right
abbrev pub all_runs : Numbers → ℕ → ℕ → List Request → Spaces → Answer (List (List Extent))
all_runs n start threshold [] spaces = Got [] spaces
all_runs n start threshold (request ∷ rest) spaces =
    and_then (part_runs n start threshold request spaces) (λ runs left.
    and_then (all_runs n start threshold rest left) (λ more rest_left. Got (runs ∷ more) rest_left))

-- single pages, so many of them
abbrev pub node_pages : Numbers → ℕ → ℕ → Spaces → Answer (List ℕ)
node_pages n start zero spaces = Got [] spaces
node_pages n start (suc count) spaces =
    and_then (run_of n start 1 spaces) (λ run left.
    and_then (node_pages n start count left) (λ pages rest_left. Got (run.page ∷ pages) rest_left))
