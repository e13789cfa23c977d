-- A level cut in three: a run of its nodes, and what stands before and behind it.
use Rattle.std.specs.Prelude.{◌≡◌, ℕ, ◌+◌, ◌-◌, ◌/◌, ◌<◌, ◌≤◌, ◌⊎◌, List, ◌++◌, length, nat_eq}
use Rattle.std.specs.Prelude.{if◌then◌else◌}
use Rattle.tree_model.specs.declared.entry.Pair.{Pair}
use Rattle.layout_model.specs.Levels.{PageNode, NewLevel, Site, pairs_of_level, touched_site}
use Rattle.layout_model.specs.Levels.{exchanged}

-- a level: the nodes before a run of it, the run, and the nodes behind it
pub record Cut : Type 0 where
  pub front : List PageNode
  pub run : List PageNode
  pub back : List PageNode

-- the level that is cut so
abbrev pub whole : Cut → List PageNode
whole cut = cut.front ++ (cut.run ++ cut.back)

-- what a level becomes where its run becomes this: the nodes before and behind the run stay
abbrev pub widened : Cut → NewLevel → NewLevel
widened cut new = record {
  nodes = cut.front ++ (new.nodes ++ cut.back);
  from = length cut.front + new.from;
  count = new.count;
  made = new.made;
}

-- the first pair that decides where an exchange takes place: the first replaced one, or the one
-- before the place where none is replaced
abbrev pub first_deciding : ℕ → ℕ → ℕ
first_deciding from count = if nat_eq count 0 then from - 1 else from

-- the number of a pair of the level, counted in the run
abbrev pub number_in_run : Cut → ℕ → ℕ
number_in_run cut from = from - length (pairs_of_level cut.front)

-- the touched nodes of the run
abbrev pub touched_in_run : Cut → ℕ → ℕ → Site
touched_in_run cut from count = touched_site cut.run (number_in_run cut from) count

-- how many pairs the touched nodes have after the exchange
abbrev pub pairs_left : Cut → ℕ → ℕ → List Pair → ℕ
pairs_left cut from count fresh =
    length (exchanged cut.run (touched_in_run cut from count) (number_in_run cut from) count fresh)

-- The node that may join these nodes of a run is in the run: one stands before them there; or
-- nothing is before the run, and the run has more nodes than these, or nothing is behind it.
abbrev pub HasNeighbour : Cut → Site → Type 0
HasNeighbour cut site =
    (0 < site.before)
    ⊎ ((length cut.front ≡ 0) × ((length cut.back ≡ 0) ⊎ (site.nodes < length cut.run)))

-- The run of a level is enough for an exchange of `count` pairs from number `from` on.
pub record IsEnough (f : ℕ) (cut : Cut) (from count : ℕ) (fresh : List Pair) : Type 0 where
  -- the first pair that decides the place isn't before the run
  pub starts : length (pairs_of_level cut.front) ≤ first_deciding from count
  -- and the last one isn't behind it
  pub ends : from + count - 1 < length (pairs_of_level cut.front) + length (pairs_of_level cut.run)
  -- where some pairs are left, and fewer than half of a node, the node that joins is in the run
  pub beside : 0 < pairs_left cut from count fresh → pairs_left cut from count fresh < f / 2 →
      HasNeighbour cut (touched_in_run cut from count)
