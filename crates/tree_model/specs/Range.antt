-- The entries that have a byte in a range, with the places at which they begin.
use Rattle.std.specs.Prelude.{◌≡◌, ℕ, ◌+◌, ◌<◌, ◌≤◌, Bool, List, [], ◌∷◌, nat_lt, min, max, map}
use Rattle.std.specs.List.{filter}
use Rattle.tree_model.specs.declared.entry.Pair.{Pair}
use Rattle.tree_model.specs.declared.entry.Placed.{Placed}
use Rattle.tree_model.specs.Tree.{bytes_of}

-- the entries with their starts, the first of which begins at `start`
abbrev pub placed : ℕ → List Pair → List Placed
placed start [] = []
placed start (p ∷ ps) = record { start = start; pair = p } ∷ placed (start + p.bytes) ps

-- does the segment have a byte from `from` on and before `to`?
abbrev pub is_in_range : ℕ → ℕ → Placed → Bool
is_in_range from to s = nat_lt (max from s.start) (min to (s.start + s.pair.bytes))

-- the entries that have a byte from `from` on and before `to`, where the first begins at `start`
abbrev pub in_range : ℕ → ℕ → ℕ → List Pair → List Placed
in_range from to start entries = filter (is_in_range from to) (placed start entries)

-- the entries alone
abbrev pub pairs_of : List Placed → List Pair
pairs_of segments = map (λ s. s.pair) segments

-- the place at which the first segment begins
abbrev pub start_of : List Placed → ℕ
start_of [] = 0
start_of (s ∷ ss) = s.start

-- the segments stand one after the other, and have all bytes from `from` on and before `to`
pub record Covers (segments : List Placed) (from to : ℕ) : Type 0 where
  pub adjoined : segments ≡ placed (start_of segments) (pairs_of segments)
  pub first : from < to → start_of segments ≤ from
  pub last : from < to → to ≤ start_of segments + bytes_of (pairs_of segments)
