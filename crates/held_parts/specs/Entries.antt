-- Parts that have runs to stand on.
use Rattle.std.specs.Prelude.{ℕ, ◌+◌, ◌^◌, ◌<◌, ◌≤◌, List, [], ◌∷◌, length, drop}
use Rattle.std.specs.List.{AllByRecursion}
use Rattle.layout_model.specs.declared.extent.Extent.{Extent}
use Rattle.edit_parts.specs.declared.part.Part as edit
use Rattle.edit_parts.specs.Pieces.{pieces_bytes}

-- each made part has so many of the runs as its count says, and its bytes can be counted
abbrev pub HaveRuns : List edit.Part → List ℕ → List Extent → Type 0
HaveRuns [] counts runs = Unit {0}
HaveRuns (edit.TheVariants.Keep pair ∷ parts) counts runs = HaveRuns parts counts runs
HaveRuns (edit.TheVariants.Make pieces ∷ parts) [] runs = ⊥
HaveRuns (edit.TheVariants.Make pieces ∷ parts) (k ∷ counts) runs =
    (k ≤ length runs) × (pieces_bytes pieces < 2 ^ 63) × HaveRuns parts counts (drop k runs)

-- the numbers of the pages of each run have 32 bits
abbrev pub AreLowRuns : List Extent → Type 0
AreLowRuns runs = AllByRecursion (λ run. run.page + run.pages < 2 ^ 32) runs
