-- What a change that was made drops, keeps and was granted, run by run.
use Rattle.std.specs.Prelude.{ℕ, Bool, List, ◌++◌, map, Option}
use Rattle.layout_model.specs.declared.extent.Extent.{Extent}
use Rattle.moment_model.specs.Version.{segment_run}
use Rattle.let_go_laws.specs.LetGo.{spare_run}
use Rattle.tree_splice.specs.Splice.{extent_of}
use Rattle.object_plan.specs.declared.planned.Planned.{Planned}
use Rattle.give_back.specs.Giving.{is_in_runs}
use Rattle.object_change.specs.declared.changed.Changed.{Changed}
use Rattle.object_change.specs.Changed.{granted_in}
use Rattle.object_state.specs.Runs.{goes}

-- the replaced segments, the nodes that were left out, and the old spare
abbrev pub dropped_by : ℕ → Planned → Option Extent → Changed → List Extent
dropped_by page p spare c = map (segment_run page) p.replaced.items ++ (map extent_of c.left ++ spare_run spare)

-- the segments in their place, and the new spare
abbrev pub kept_by : ℕ → Changed → List Extent
kept_by page c = map (segment_run page) c.entries.items ++ spare_run c.spare

-- the pages that go: those that were dropped, and aren't kept
abbrev pub goes_by : ℕ → Planned → Option Extent → Changed → ℕ → Bool
goes_by page p spare c = goes (dropped_by page p spare c) (kept_by page c)

-- the pages that were granted
abbrev pub made_by : Changed → ℕ → Bool
made_by c = is_in_runs (granted_in c)
