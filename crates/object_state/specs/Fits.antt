-- Which segments of an object may stand side by side.
use Rattle.std.specs.Prelude.{ℕ, Bool, true, ◌||◌, nat_le, Option, Some, None}
use Rattle.geometry_model.specs.Numbers.{Numbers}
use Rattle.tree_model.specs.declared.entry.Pair.{Pair}
use Rattle.tree_model.specs.Tree.{page_count}

-- of a segment and the one before it at least one has as many pages as the threshold
abbrev pub may_stand : Numbers → ℕ → ℕ → Option Pair → Pair → Bool
may_stand n threshold index None pair = true
may_stand n threshold index (Some before) pair =
    nat_le threshold (page_count n.page before.bytes)
    || nat_le threshold (page_count n.page pair.bytes)
