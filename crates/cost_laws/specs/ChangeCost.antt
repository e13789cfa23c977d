-- The pages that a change writes and is granted, and the bound on them.
use Rattle.std.specs.Prelude.{ℕ, ◌+◌, ◌-◌, ◌≤◌, Option, length, sum_by}
use Rattle.geometry_model.specs.Numbers.{Numbers}
use Rattle.tree_model.specs.Tree.{page_count}
use Rattle.layout_model.specs.declared.change.Change.{Change}
use Rattle.layout_model.specs.declared.extent.Extent.{Extent}
use Rattle.layout_model.specs.declared.fit.Fit.TheVariants.{Extend}
use Rattle.layout_model.specs.Layout.{Tree, Grants, plan_of, laid}
use Rattle.layout_model.specs.Plan.{Plan, extent_pages, made_part_bytes}
use Rattle.layout_laws.specs.Halving.{runs_pages}
use Rattle.moment_model.specs.Costs.{cost, added_most}
use Rattle.moment_laws.specs.Granting.{granted_runs}

-- the pages of what a plan brings: those of its made parts, or of the bytes that the last segment
-- grows by
abbrev pub brought_pages : Numbers → Change → Plan → ℕ
brought_pages n change plan =
    elim plan.fit [
      | Extend ↦ page_count n.page change.added
      | _ ↦ sum_by (page_count n.page) (made_part_bytes plan.parts)
    ]

-- the pages that a change writes: those of what it brings, and one for each made node
abbrev pub written_pages : Numbers → Tree → Option Extent → Change → Grants → ℕ
written_pages n tree spare change grants =
    brought_pages n change (plan_of n tree spare change) + length grants.pages

-- the pieces that halving added: the runs of each part beyond its first
abbrev pub added_pieces : Grants → ℕ
added_pieces grants = sum_by (λ runs. length runs - 1) grants.runs

-- the most pages that the change writes, by the height before it, with the pieces that halving added
abbrev pub change_cost : Numbers → Tree → Change → Grants → ℕ
change_cost n tree change grants =
    cost n change.added (length tree.levels) tree.threshold (added_pieces grants)

-- A change adds few pieces, writes no more pages than its cost, and is granted no more than those
-- and its spare.
pub record IsCheap (n : Numbers) (tree : Tree) (spare : Option Extent) (change : Change)
    (grants : Grants) : Type 0 where
  pub added : added_pieces grants ≤ added_most n change.added tree.threshold
  pub written : written_pages n tree spare change grants ≤ change_cost n tree change grants
  pub granted : runs_pages (granted_runs grants) ≤ change_cost n tree change grants
      + extent_pages (laid n tree spare change grants).spare
