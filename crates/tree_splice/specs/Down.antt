-- The way down: of each level the run of nodes that an exchange looks at.
use Rattle.std.specs.Prelude.{◌≡◌, ℕ, zero, suc, ◌+◌, ◌-◌, ◌^◌, ◌<◌, ◌≤◌, min, Bool, List, [], ◌∷◌}
use Rattle.std.specs.Prelude.{◌++◌, length, map, take, drop, nat_lt, if◌then◌else◌}
use Rattle.layout_model.specs.Levels.{PageNode, pairs_of_level}
use Rattle.layout_model.specs.Parts.{count_ended}
use Rattle.local_laws.specs.Cut.{Cut, whole, number_in_run}
use Rattle.local_laws.specs.Path.{PathLevel, IsWay, shown}
use Rattle.tree_model.specs.declared.entry.Pair.{Pair}
use Rattle.tree_model.specs.declared.tree.Root.{Root}
use Rattle.tree_model.specs.Tree.{Pages, AreTrees, bytes_of}
use Rattle.tree_splice.specs.Way.{named_on}
use Rattle.tree_splice.specs.declared.section.Deciding.{Deciding}
use Rattle.tree_splice.specs.declared.section.Section.{Section}

-- the first byte that decides where the bytes from `from` on and before `to` are exchanged: the
-- first of them, or the one before the place where there is none
abbrev pub first_byte : ℕ → ℕ → ℕ
first_byte from to = if nat_lt from to then from else from - 1

-- the first of the deciding bytes, and the last
abbrev pub deciding_bytes : ℕ → ℕ → Deciding
deciding_bytes from to = record { first = first_byte from to; last = to - 1 }

-- the names of a level's nodes: those in the run of the level above, those before and those behind
pub record Names : Type 0 where
  pub front : List Pair
  pub run : List Pair
  pub back : List Pair

-- the names of the whole level
abbrev pub all_names : Names → List Pair
all_names names = names.front ++ (names.run ++ names.back)

-- the names of the nodes below this run, and of those before and behind them
abbrev pub below_names : Cut → Names
below_names cut = record {
  front = pairs_of_level cut.front;
  run = pairs_of_level cut.run;
  back = pairs_of_level cut.back;
}

-- how far a run reaches from the last node that has a deciding byte on: with that node alone, and
-- with two more where fewer than two are before the first
abbrev pub reach : ℕ → ℕ
reach before = if nat_lt before 2 then 3 else 1

-- two nodes before those that have the deciding bytes; and two behind them, where fewer than two
-- are before
abbrev pub section_of : Deciding → ℕ → List Pair → Section
section_of bytes start run =
    let at = count_ended (bytes.first - start) run in
    record {
      first = at - 2;
      end = min (length run) (count_ended (bytes.last - start) run + reach at);
    }

-- the level of these names, with the run of nodes that are looked at
abbrev pub cut_below : Pages → Deciding → Names → Cut
cut_below at bytes names =
    let section = section_of bytes (bytes_of names.front) names.run in
    record {
      front = named_on at (names.front ++ take section.first names.run);
      run = named_on at (take (section.end - section.first) (drop section.first names.run));
      back = named_on at (drop section.end names.run ++ names.back);
    }

-- so many levels below these cuts, cut so
abbrev pub way_below : Pages → Deciding → ℕ → Names → List Cut → List Cut
way_below at bytes zero names cuts = cuts
way_below at bytes (suc height) names cuts =
    way_below at bytes height (below_names (cut_below at bytes names))
    (cut_below at bytes names ∷ cuts)

-- the root's name
abbrev pub root_names : Root → Names
root_names root = record {
  front = [];
  run = record { bytes = root.length; page = root.page } ∷ [];
  back = [];
}

-- the levels of a tree, the lowest first, cut so
abbrev pub way_of : Pages → Deciding → Root → List Cut
way_of at bytes root = way_below at bytes root.height (root_names root) []

-- the entries before the lowest run
abbrev pub entries_before : List Cut → List Pair
entries_before [] = []
entries_before (cut ∷ above) = pairs_of_level cut.front

-- the names are those below these cuts, or a root's
abbrev pub AreBelow : List Cut → Names → Type 0
AreBelow [] names = (names.front ≡ []) × (length names.run ≤ 1)
AreBelow (cut ∷ above) names = names.front ≡ pairs_of_level cut.front

-- the deciding bytes lie under the run
pub record AreUnder (bytes : Deciding) (names : Names) : Type 0 where
  pub low : bytes_of names.front ≤ bytes.first
  pub order : bytes.first ≤ bytes.last
  pub high : bytes.last < bytes_of names.front + bytes_of names.run

-- What the code knows of the names of a level: those of the run, at which byte they begin, and
-- whether the level has others before and behind them; they name trees of this height, and the
-- deciding bytes lie under those of the run.
pub record AreKnown (at : Pages) (bytes : Deciding) (height : ℕ) (names : Names) (pairs : List Pair)
    (start : ℕ) (before behind : Bool) : Type 0 where
  pub run_is : names.run ≡ pairs
  pub start_is : start ≡ bytes_of names.front
  pub before_is : before ≡ nat_lt 0 (length names.front)
  pub behind_is : behind ≡ nat_lt 0 (length names.back)
  pub trees : AreTrees at 0 height (all_names names)
  pub under : 1 ≤ height → AreUnder bytes names
  pub small : bytes_of (all_names names) < 2 ^ 64

-- The levels below these cuts were added to those that were read, and the lowest run begins at
-- this byte.
pub record GoesDown (at : Pages) (bytes : Deciding) (height : ℕ) (names : Names) (cuts : List Cut)
    (old new : List PathLevel) (start : ℕ) : Type 0 where
  pub path : new ++ shown cuts ≡ old ++ shown (way_below at bytes height names cuts)
  pub start_is : start ≡ bytes_of (entries_before (way_below at bytes height names cuts))

-- the levels of a tree were read, and the lowest run begins at this byte
pub record FindsWay (at : Pages) (bytes : Deciding) (root : Root) (path : List PathLevel)
    (start : ℕ) : Type 0 where
  pub path_is : path ≡ shown (way_of at bytes root)
  pub start_is : start ≡ bytes_of (entries_before (way_of at bytes root))

-- the runs of these cuts are enough for an exchange; an empty tree has none
abbrev pub AreEnough : ℕ → List Cut → ℕ → ℕ → List Pair → Type 0
AreEnough f [] from count fresh = Unit {0}
AreEnough f (cut ∷ above) from count fresh = IsWay f cut above from count fresh

-- the number of an entry among those of the lowest run
abbrev pub place_in : List Cut → ℕ → ℕ
place_in [] from = from
place_in (cut ∷ above) from = number_in_run cut from

-- The way shows what is needed of these levels for an exchange of `count` entries from number
-- `from` on, and the place is counted in its lowest run.
pub record ShowsWay (f : ℕ) (levels : List (List PageNode)) (from count : ℕ) (fresh : List Pair)
    (path : List PathLevel) (place many : ℕ) : Type 0 where
  pub cuts : List Cut
  pub path_is : path ≡ shown cuts
  pub levels_are : map whole cuts ≡ levels
  pub enough : AreEnough f cuts from count fresh
  pub place_is : place ≡ place_in cuts from
  pub many_is : many ≡ count
