-- When grants suit a change, whoever gave them.
use Rattle.std.specs.Prelude.{◌≡◌, ℕ, ◌≤◌, ◌⊎◌, Bool, true, false, Option, List, [], ◌∷◌, length}
use Rattle.std.specs.List.{AllByRecursion}
use Rattle.geometry_model.specs.Numbers.{Numbers}
use Rattle.tree_model.specs.Tree.{page_count}
use Rattle.layout_model.specs.declared.change.Change.{Change}
use Rattle.layout_model.specs.declared.extent.Extent.{Extent}
use Rattle.layout_model.specs.declared.fit.Fit.{Fit}
use Rattle.layout_model.specs.declared.fit.Fit.TheVariants.{Extend, Follow, Fresh}
use Rattle.layout_model.specs.Levels.{count_made}
use Rattle.layout_model.specs.Layout.{Tree, Grants, plan_of, laid_levels}
use Rattle.layout_model.specs.Plan.{Plan, made_part_bytes}
use Rattle.layout_laws.specs.Halving.{runs_pages, AreHalves}
use Rattle.moment_laws.specs.Granting.{LiesInSpace, granted_runs}

-- the runs of a part of so many bytes: one that has their pages, or several of the threshold's
-- pages each, with just their pages
abbrev pub HoldsPart : ℕ → ℕ → ℕ → List Extent → Type 0
HoldsPart size least bytes runs =
    ((run : Extent) × (runs ≡ run ∷ []) × (page_count size bytes ≤ run.pages))
    ⊎ ((least ≤ page_count size bytes) × AreHalves least (page_count size bytes) runs)

-- runs for numbers of bytes, one after the other
abbrev pub AllHold : ℕ → ℕ → List ℕ → List (List Extent) → Type 0
AllHold size least [] runs = Unit {0}
AllHold size least (bytes ∷ rest) [] = ⊥
AllHold size least (bytes ∷ rest) (run ∷ runs) =
    HoldsPart size least bytes run × AllHold size least rest runs

-- there are just as many, each with just the pages of its part, but the last one of an append
abbrev pub AllExact : ℕ → Bool → List ℕ → List (List Extent) → Type 0
AllExact size appends [] runs = runs ≡ []
AllExact size appends (bytes ∷ ns) [] = ⊥
AllExact size true (bytes ∷ []) (run ∷ runs) = runs ≡ []
AllExact size false (bytes ∷ []) (run ∷ runs) =
    (runs_pages run ≡ page_count size bytes) × (runs ≡ [])
AllExact size appends (bytes ∷ next ∷ ns) (run ∷ runs) =
    (runs_pages run ≡ page_count size bytes) × AllExact size appends (next ∷ ns) runs

-- the runs for parts of so many bytes, by how their plan meets the spare: none where the new bytes
-- stand on it
abbrev pub SuitBy : Fit → ℕ → ℕ → Bool → List ℕ → List (List Extent) → Type 0
SuitBy Fresh size least appends ns runs = AllHold size least ns runs × AllExact size appends ns runs
SuitBy Follow size least appends ns runs = runs ≡ []
SuitBy Extend size least appends ns runs = runs ≡ []

-- the runs for a plan's parts
abbrev pub SuitPlan : Numbers → Tree → Change → Plan → List (List Extent) → Type 0
SuitPlan n tree change plan runs =
    SuitBy plan.fit n.page tree.threshold change.appends (made_part_bytes plan.parts) runs

-- Grants suit a change: its made parts have runs that hold them, each run lies in one space, and
-- there is a page for each made node.
pub record IsSuited (n : Numbers) (tree : Tree) (spare : Option Extent) (change : Change)
    (grants : Grants) : Type 0 where
  pub runs : SuitPlan n tree change (plan_of n tree spare change) grants.runs
  pub together : AllByRecursion (LiesInSpace n) (granted_runs grants)
  pub pages : length grants.pages
      ≡ count_made (laid_levels n tree spare (plan_of n tree spare change) grants.runs [])
