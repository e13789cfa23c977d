-- The searches that find the window of a change: one for the segments around its place, and one for
-- the neighbour on each side where the change ends inside a segment.
use Rattle.std.specs.Prelude.{ℕ, ◌+◌, ◌-◌, min, List, [], ◌∷◌, ◌++◌, nat_lt, if◌then◌else◌}
use Rattle.tree_model.specs.declared.entry.Pair.{Pair}
use Rattle.tree_model.specs.declared.entry.Placed.{Placed}
use Rattle.tree_model.specs.Tree.{bytes_of}
use Rattle.tree_model.specs.Range.{in_range, pairs_of, start_of}

-- where the first of these segments ends
abbrev pub first_end : List Placed → ℕ
first_end [] = 0
first_end (s ∷ ss) = s.start + s.pair.bytes

-- where the last of these segments begins
abbrev pub last_start : List Placed → ℕ
last_start [] = 0
last_start (s ∷ []) = s.start
last_start (s ∷ t ∷ ss) = last_start (t ∷ ss)

-- where segments that stand one after the other end
abbrev pub end_of : List Placed → ℕ
end_of segments = start_of segments + bytes_of (pairs_of segments)

-- the segments from the byte before the place up to the byte behind what is removed
abbrev pub met_around : List Pair → ℕ → ℕ → List Placed
met_around entries at removed =
    in_range (at - 1) (min (at + removed + 1) (bytes_of entries)) 0 entries

-- the segment with the byte before a place, where there is such a byte
abbrev pub met_before : List Pair → ℕ → List Placed
met_before entries place = in_range (place - 1) place 0 entries

-- the segment with the byte at a place, where there is such a byte
abbrev pub met_behind : List Pair → ℕ → List Placed
met_behind entries place = in_range place (place + 1) 0 entries

-- these segments with their neighbours: one in front where the place lies before the end of the
-- first, and one behind where what is removed ends past the start of the last
abbrev pub with_neighbours : List Pair → ℕ → ℕ → List Placed → List Placed
with_neighbours entries at removed met =
    (if nat_lt at (first_end met) then met_before entries (start_of met) else [])
    ++ (met
    ++ (if nat_lt (last_start met) (at + removed) then met_behind entries (end_of met) else []))
