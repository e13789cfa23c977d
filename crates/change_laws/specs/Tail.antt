-- Where a spare stands: right behind the last segment of the working version.
use Rattle.std.specs.Prelude.{◌≡◌, ℕ, ◌+◌, ◌<◌, Option, Some, None, List, length}
use Rattle.geometry_model.specs.Numbers.{Numbers}
use Rattle.geometry_model.specs.Pages.{IsInSpace}
use Rattle.tree_model.specs.declared.entry.Pair.{Pair}
use Rattle.tree_model.specs.Tree.{page_count}
use Rattle.layout_model.specs.declared.extent.Extent.{Extent}
use Rattle.layout_model.specs.Plan.{last_entry}
use Rattle.layout_model.specs.Layout.{tree_entries}
use Rattle.moment_model.specs.Version.{Version}
use Rattle.moment_model.specs.Moment.{Moment, object_slot}

-- a run begins right behind the last entry's pages, and lies in one space with them
pub record FollowsLast (n : Numbers) (entries : List Pair) (run : Extent) : Type 0 where
  pub some : 0 < length entries
  pub behind : run.page ≡ (last_entry entries).page + page_count n.page (last_entry entries).bytes
  pub together : (s : ℕ) × IsInSpace n s (last_entry entries).page
      (page_count n.page (last_entry entries).bytes + run.pages)

-- a spare, where there is one, follows the last entry of the version
abbrev pub IsTail : Numbers → Version → Option Extent → Type 0
IsTail n version None = Unit {0}
IsTail n None (Some run) = ⊥
IsTail n (Some tree) (Some run) = FollowsLast n (tree_entries tree) run

-- each spare of a moment follows its object's last entry
abbrev pub HaveTails : Numbers → Moment → Type 0
HaveTails n moment = (o : ℕ) → IsTail n (object_slot moment o).working (object_slot moment o).spare
