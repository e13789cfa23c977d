-- The window of a change as it is read, and what is read for it.
use Rattle.std.specs.Prelude.{◌≡◌, ℕ, ◌+◌, ◌-◌, Bool, ◌&&◌, Option, Some, None, List, []}
use Rattle.std.specs.Prelude.{nat_lt, if◌then◌else◌}
use Rattle.fault_count.specs.Counts.{Meter}
use Rattle.page_cache.specs.Kept.{KeptNodes}
use Rattle.tree_model.specs.declared.entry.Pair.{Pair}
use Rattle.tree_model.specs.declared.entry.Placed.{Placed}
use Rattle.tree_model.specs.declared.tree.Root.{Root}
use Rattle.tree_model.specs.Range.{in_range, placed, start_of}
use Rattle.tree_model.specs.Tree.{Pages, entries_of}
use Rattle.content_laws.specs.Spelling.{HaveBytes}
use Rattle.window_laws.specs.Searches.{first_end, last_start, end_of}
use Rattle.window_laws.specs.Window.{window_at, window_start}
use Rattle.tree_read.specs.Search.{KeepsNodes, Uses}

-- where the entries have bytes, these are just the window, each at its place
abbrev pub IsWindowOf : Pages → Root → ℕ → ℕ → List Placed → Type 0
IsWindowOf at root place removed window =
    HaveBytes (entries_of at root.height root.page) →
    window ≡ placed (window_start place (entries_of at root.height root.page))
    (window_at (entries_of at root.height root.page) place removed)

-- the byte before the first segment met, where the place lies before the end of that one
abbrev pub place_before : ℕ → List Placed → Option ℕ
place_before at met =
    if nat_lt at (first_end met) && nat_lt 0 (start_of met) then Some (start_of met - 1) else None

-- the byte behind the last segment met, where there is one and the cut ends behind the start of that
-- segment
abbrev pub place_behind : ℕ → ℕ → List Placed → Option ℕ
place_behind end bytes met =
    if nat_lt (last_start met) end && nat_lt (end_of met) bytes then Some (end_of met) else None

-- the segment that has the byte, where one is asked for
abbrev pub found_where : List Pair → Option ℕ → List Placed
found_where entries None = []
found_where entries (Some at) = in_range at (at + 1) 0 entries
