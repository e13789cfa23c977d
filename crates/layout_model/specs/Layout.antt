-- The layout of a change as a whole: what it asks for, what is granted, and the tree and the
-- spare pages that stand afterwards.
use Rattle.std.specs.Prelude.{ℕ, ◌-◌, ◌*◌, min, Bool, Option, Some, None, List, [], ◌∷◌, ◌++◌}
use Rattle.std.specs.Prelude.{map, if◌then◌else◌}
use Rattle.geometry_model.specs.Numbers.{Numbers, space_pages, fan_out}
use Rattle.tree_model.specs.declared.entry.Pair.{Pair}
use Rattle.tree_model.specs.Tree.{page_count}
use Rattle.layout_model.specs.declared.part.Part.{Part}
use Rattle.layout_model.specs.declared.part.Part.TheVariants.{Keep, Make}
use Rattle.layout_model.specs.declared.extent.Extent.{Extent}
use Rattle.layout_model.specs.declared.change.Change.{Change}
use Rattle.layout_model.specs.Plan.{extent_pages, past, Plan, planned, ask_of, made_part_bytes}
use Rattle.layout_model.specs.Plan.{last_entry}
use Rattle.layout_model.specs.declared.fit.Fit.TheVariants.{Extend, Follow, Fresh}
use Rattle.layout_model.specs.Levels.{PageNode, NewLevel, entries_of_levels, spliced}
use Rattle.layout_model.specs.Levels.{nodes_of_levels, count_made}
use Rattle.layout_model.specs.declared.request.Request.{Request}
use Rattle.layout_model.specs.Grants.{Spaces, Answer, and_then, all_runs, node_pages}
use Rattle.layout_model.specs.Grants.Answer.{Got}

-- the tree of an object: its nodes level by level, the lowest first, and its threshold
pub record Tree : Type 0 where
  pub levels : List (List PageNode)
  pub threshold : ℕ

abbrev pub tree_entries : Tree → List Pair
tree_entries tree = entries_of_levels tree.levels

-- the plan of a change of a tree, which has this spare behind its last segment
abbrev pub plan_of : Numbers → Tree → Option Extent → Change → Plan
plan_of n tree spare change = planned n tree.threshold (tree_entries tree)
    (extent_pages spare) change

-- requests for parts of these numbers of pages: each for just its pages, but the last one of an
-- append for as many as it wishes
abbrev pub requests : Bool → ℕ → ℕ → List ℕ → List Request
requests appends last limit [] = []
requests appends last limit (need ∷ []) =
    record { want = if appends then ask_of need last limit else need; need = need } ∷ []
requests appends last limit (need ∷ next ∷ rest) =
    record { want = need; need = need } ∷ requests appends last limit (next ∷ rest)

-- what a plan asks for: nothing where its new bytes stand on the spare pages
abbrev pub wanted : Numbers → Tree → Change → Plan → List Request
wanted n tree change plan =
    elim plan.fit [
      | Fresh ↦ requests change.appends (page_count n.page (last_entry (tree_entries tree)).bytes)
          (space_pages n)
          (map (page_count n.page) (made_part_bytes plan.parts))
      | _ ↦ []
    ]

-- segments of so many bytes on these runs: all full but the last
abbrev pub segments_on : ℕ → ℕ → List Extent → List Pair
segments_on size bytes [] = []
segments_on size bytes (run ∷ rest) =
    record { bytes = min bytes (run.pages * size); page = run.page }
    ∷ segments_on size (bytes - run.pages * size) rest

-- the entries of the parts: a kept one as it is, a made one on its runs; one for which no runs
-- are left has no entry
abbrev pub laid_parts : ℕ → List Part → List (List Extent) → List Pair
laid_parts size [] runs = []
laid_parts size (Keep pair ∷ rest) runs = pair ∷ laid_parts size rest runs
laid_parts size (Make bytes ∷ rest) [] = laid_parts size rest []
laid_parts size (Make bytes ∷ rest) (run ∷ runs) =
    segments_on size bytes run ++ laid_parts size rest runs

-- the spare as the one run of a part that follows the tail
abbrev pub as_run : Option Extent → List (List Extent)
as_run None = []
as_run (Some run) = (run ∷ []) ∷ []

-- the entries that a plan brings, on the runs that were granted or on the spare
abbrev pub laid_entries : Numbers → Option Extent → Plan → List (List Extent) → List Pair
laid_entries n spare plan runs =
    elim plan.fit [
      | Follow ↦ laid_parts n.page plan.parts (as_run spare)
      | _ ↦ laid_parts n.page plan.parts runs
    ]

-- the pages of the only run beyond what was needed
abbrev pub left_over : ℕ → List Extent → Option Extent
left_over need [] = None
left_over need (run ∷ []) = past need (Some run)
left_over need (run ∷ more ∷ rest) = None

-- the pages of the last part's run beyond what that part needed
abbrev pub spare_behind : ℕ → List ℕ → List (List Extent) → Option Extent
spare_behind size (bytes ∷ []) (runs ∷ []) = left_over (page_count size bytes) runs
spare_behind size (bytes ∷ next ∷ rest) (runs ∷ more) = spare_behind size (next ∷ rest) more
spare_behind size bytes runs = None

-- the spare after a change: what is left of the tail that was used, or what an append got beyond
-- its need
abbrev pub spare_after : Numbers → Option Extent → Change → Plan → List (List Extent) →
    Option Extent
spare_after n spare change plan runs =
    elim plan.fit [
      | Extend ↦ past (page_count n.page change.added) spare
      | Follow ↦ past (page_count n.page
          (last_entry (laid_parts n.page plan.parts (as_run spare))).bytes) spare
      | Fresh ↦ if change.appends then spare_behind n.page (made_part_bytes plan.parts) runs else
          None
    ]

-- the new levels, their made nodes on these pages
abbrev pub laid_levels : Numbers → Tree → Option Extent → Plan → List (List Extent) → List ℕ →
    List NewLevel
laid_levels n tree spare plan runs pages =
    spliced (fan_out n) tree.levels plan.from plan.count (laid_entries n spare plan runs) pages

-- the pages that a change was granted: the runs of its made parts, and one page for each made node
pub record Grants : Type 0 where
  pub runs : List (List Extent)
  pub pages : List ℕ

-- The pages that are granted for a change out of these free ones: the runs of its parts from left
-- to right, and then a page for each node of the new tree.
unfoldable pub granted : Numbers → ℕ → Tree → Option Extent → Change → Spaces → Answer Grants
granted n start tree spare change free =
    let plan = plan_of n tree spare change in
    and_then (all_runs n start tree.threshold (wanted n tree change plan) free) (λ runs left.
    and_then (node_pages n start (count_made (laid_levels n tree spare plan runs [])) left)
    (λ pages rest.
    Got (record { runs = runs; pages = pages }) rest))

-- a tree and the spare pages behind its last segment
pub record Laid : Type 0 where
  pub tree : Tree
  pub spare : Option Extent

-- the tree and the spare that a change leaves on these pages
unfoldable pub laid : Numbers → Tree → Option Extent → Change → Grants → Laid
laid n tree spare change grants =
    let plan = plan_of n tree spare change in
    record {
      tree = record {
        levels = nodes_of_levels (laid_levels n tree spare plan grants.runs grants.pages);
        threshold = tree.threshold;
      };
      spare = spare_after n spare change plan grants.runs;
    }
