-- The pages that the working version of an object lets go in a change, and the runs in which they
-- lie.
use Rattle.std.specs.Prelude.{◌≡◌, ℕ, ◌+◌, Bool, ◌&&◌, nat_eq, nat_lt, Option, Some, None, List}
use Rattle.std.specs.Prelude.{[], ◌∷◌, ◌++◌, map, take, drop}
use Rattle.geometry_model.specs.Numbers.{Numbers}
use Rattle.tree_model.specs.declared.entry.Pair.{Pair}
use Rattle.layout_model.specs.declared.change.Change.{Change}
use Rattle.layout_model.specs.declared.extent.Extent.{Extent}
use Rattle.layout_model.specs.Plan.{Plan}
use Rattle.layout_model.specs.Layout.{Tree, tree_entries, plan_of}
use Rattle.moment_model.specs.Version.{uses, segment_run, node_runs}
use Rattle.moment_model.specs.Moment.{ObjectSlot, working_uses}
use Rattle.moment_laws.specs.Granting.{page_run}

-- the working version or its spare used the page, and neither does any more
abbrev pub is_dropped : Numbers → ℕ → ObjectSlot → ObjectSlot → Bool
is_dropped n page before after = nat_lt 0 (working_uses n page before) && nat_eq
    (working_uses n page after) 0

-- the entries that a plan replaces
abbrev pub replaced_entries : List Pair → Plan → List Pair
replaced_entries entries plan = take plan.count (drop plan.from entries)

-- the run of a spare, where there is one
abbrev pub spare_run : Option Extent → List Extent
spare_run None = []
spare_run (Some run) = run ∷ []

-- the runs of the replaced entries, of the nodes that are gone, and of the old spare
abbrev pub dropped_runs : Numbers → Tree → Option Extent → Change → List Extent → List Extent
dropped_runs n tree spare change gone =
    map (segment_run n.page) (replaced_entries (tree_entries tree) (plan_of n tree spare change))
    ++ (gone ++ spare_run spare)

-- the nodes that are gone: with those of the new tree they are those of the old one and the made
-- ones, page by page
abbrev pub AreGone : Tree → Tree → List ℕ → List Extent → Type 0
AreGone before after made gone =
    (page : ℕ) → uses page gone + uses page (node_runs after)
    ≡ uses page (node_runs before) + uses page (map page_run made)
