-- The way to an exchange in a tree: of each level a run of nodes, the lowest first.
use Rattle.std.specs.Prelude.{◌≡◌, ℕ, ◌+◌, ◌-◌, ◌≤◌, Bool, true, false, ◌&&◌, not, List, [], ◌∷◌}
use Rattle.std.specs.Prelude.{length, map, drop, nat_lt}
use Rattle.tree_model.specs.declared.entry.Pair.{Pair}
use Rattle.layout_model.specs.Levels.{PageNode, NewLevel, pair_of, pairs_of_level, level_after}
use Rattle.layout_model.specs.Levels.{raised_levels, is_top}
use Rattle.local_laws.specs.Cut.{Cut, widened, pairs_left, touched_in_run, HasNeighbour, IsEnough}

-- What is known of a level on the way: the nodes of a run of it; the number of the pair that names
-- the first of them, counted in the run of the level above, and 0 on the highest level; and whether
-- the level has nodes before the run, and behind it.
pub record PathLevel : Type 0 where
  pub nodes : List PageNode
  pub first : ℕ
  pub before : Bool
  pub behind : Bool

-- the new level is the highest: it has at most one node, and none outside of the run
abbrev pub is_top_of_path : PathLevel → NewLevel → Bool
is_top_of_path level new = is_top new && (not level.before && not level.behind)

-- the new levels from one on, as the runs show them, above which these runs stand
abbrev pub new_path_from : ℕ → NewLevel → PathLevel → List PathLevel → List ℕ → List NewLevel
new_path_from f below level [] pages = raised_levels (length below.nodes) f below pages
new_path_from f below level (up ∷ above) pages =
    elim (is_top_of_path level below) [
      | true ↦ below ∷ []
      | false ↦ below ∷ new_path_from f
          (level_after f up.nodes (level.first + below.from) below.count (map pair_of below.made)
          (drop (length below.made) pages))
          up above (drop (length below.made) pages)
    ]

-- The new levels as the runs show them, where `count` entries from number `from` of the lowest run
-- on are exchanged for the fresh ones. Shown of a level are its run's nodes after the exchange.
unfoldable pub splice_path : ℕ → List PathLevel → ℕ → ℕ → List Pair → List ℕ → List NewLevel
splice_path f [] from count fresh pages =
    let first = level_after f [] 0 0 fresh pages in
    raised_levels (length first.nodes) f first pages
splice_path f (level ∷ above) from count fresh pages =
    new_path_from f (level_after f level.nodes from count fresh pages) level above pages

-- the number of the pair that names the run's first node, counted in the run above
abbrev pub first_name : Cut → List Cut → ℕ
first_name cut [] = 0
first_name cut (up ∷ above) = length cut.front - length (pairs_of_level up.front)

-- what the way shows of a level that is cut so, above which these levels stand
abbrev pub shown_level : Cut → List Cut → PathLevel
shown_level cut above = record {
  nodes = cut.run;
  first = first_name cut above;
  before = nat_lt 0 (length cut.front);
  behind = nat_lt 0 (length cut.back);
}

-- what the way shows of levels that are cut so
abbrev pub shown : List Cut → List PathLevel
shown [] = []
shown (cut ∷ above) = shown_level cut above ∷ shown above

-- The run above is enough for one below it.
pub record Leads (cut up : Cut) : Type 0 where
  -- the pair that names the first node of the run below isn't before the run above
  pub starts : length (pairs_of_level up.front) ≤ length cut.front
  -- and the one that names the last isn't behind it
  pub ends : length cut.front + length cut.run
      ≤ length (pairs_of_level up.front) + length (pairs_of_level up.run)
  -- the run above has a neighbour of the nodes that have these pairs
  pub beside : HasNeighbour up (touched_in_run up (length cut.front) (length cut.run))

-- each run leads to the one above it, and the highest is all of its level
abbrev pub AreLeading : List Cut → Type 0
AreLeading [] = Unit {0}
AreLeading (cut ∷ []) = (length cut.front ≡ 0) × (length cut.back ≡ 0)
AreLeading (cut ∷ up ∷ above) = Leads cut up × AreLeading (up ∷ above)

-- The runs are enough for an exchange of `count` entries from number `from` on.
pub record IsWay (f : ℕ) (cut : Cut) (above : List Cut) (from count : ℕ)
    (fresh : List Pair) : Type 0 where
  -- the lowest run is enough
  pub enough : IsEnough f cut from count fresh
  -- also where no pair is left in the touched nodes, the run has the neighbour
  pub emptied : pairs_left cut from count fresh ≡ 0 →
      HasNeighbour cut (touched_in_run cut from count)
  -- and from there each run leads to the next
  pub leads : AreLeading (cut ∷ above)

-- the new levels, where those of the runs are known: the nodes outside of the runs stay
abbrev pub widened_path : List Cut → List NewLevel → List NewLevel
widened_path [] new = new
widened_path (cut ∷ above) [] = []
widened_path (cut ∷ above) (level ∷ new) = widened cut level ∷ widened_path above new
