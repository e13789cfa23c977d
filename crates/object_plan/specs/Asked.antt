-- What is asked for made parts, step by step.
use Rattle.std.specs.Prelude.{ℕ, ◌^◌, ◌<◌, Bool, Option, Some, None, List, [], ◌∷◌, map}
use Rattle.std.specs.List.{AllByRecursion}
use Rattle.geometry_model.specs.Numbers.{Numbers, space_pages}
use Rattle.tree_model.specs.declared.entry.Pair.{Pair}
use Rattle.tree_model.specs.Tree.{page_count}
use Rattle.layout_model.specs.declared.fit.Fit.{Fit}
use Rattle.layout_model.specs.declared.fit.Fit.TheVariants.{Fresh}
use Rattle.layout_model.specs.declared.part.Part.{Part}
use Rattle.layout_model.specs.declared.request.Request.{Request}
use Rattle.layout_model.specs.Layout.{requests}
use Rattle.layout_model.specs.Plan.{ask_of, last_entry, made_part_bytes}

-- the numbers of bytes can be counted in pages
abbrev pub AreCounted : List ℕ → Type 0
AreCounted counts = AllByRecursion (λ bytes. bytes < 2 ^ 63) counts

-- the only one of some numbers
abbrev pub only_one : List ℕ → Option ℕ
only_one [] = None
only_one (bytes ∷ []) = Some bytes
only_one (bytes ∷ more ∷ rest) = None

-- so many pages, and no more than these
abbrev pub just : ℕ → Request
just need = record { want = need; need = need }

-- the last request with what an append wishes
abbrev pub with_wish : ℕ → ℕ → List Request → List Request
with_wish last limit [] = []
with_wish last limit (request ∷ []) =
    record { want = ask_of request.need last limit; need = request.need } ∷ []
with_wish last limit (request ∷ next ∷ rest) = request ∷ with_wish last limit (next ∷ rest)

-- what is asked for parts, by how they meet the spare pages
abbrev pub wanted_by : Fit → Numbers → List Pair → Bool → List Part → List Request
wanted_by fit n entries appends parts =
    elim fit [
      | Fresh ↦ requests appends (page_count n.page (last_entry entries).bytes) (space_pages n)
          (map (page_count n.page) (made_part_bytes parts))
      | _ ↦ []
    ]
