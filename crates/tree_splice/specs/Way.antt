-- The way down: levels read with all of their nodes, and nodes that have pairs.
use Rattle.std.specs.Prelude.{ℕ, suc, ◌≤◌, List, [], ◌∷◌, length, map, sum_by}
use Rattle.std.specs.Prelude.{nat_eq, if◌then◌else◌}
use Rattle.std.specs.List.{AllByRecursion}
use Rattle.tree_model.specs.declared.entry.Pair.{Pair}
use Rattle.tree_model.specs.declared.tree.Root.{Root}
use Rattle.tree_model.specs.Node.{NodeBytes}
use Rattle.tree_model.specs.Tree.{Pages}
use Rattle.content_laws.specs.Spelling.{HaveBytes}
use Rattle.layout_model.specs.Levels.{PageNode, pairs_of_level}
use Rattle.local_laws.specs.Path.{PathLevel}
use Rattle.tree_pages.specs.Levels.{node_on}
use Rattle.tree_pages.specs.Stored.{top_page}
use Rattle.tree_splice.specs.Remade.{rebuilt}
use Rattle.tree_splice.specs.declared.remade.Remade.{Remade}

-- pairs of a node: one at least, each with a byte under it
pub record HasSomePairs (pairs : List Pair) : Type 0 where
  pub some : 1 ≤ length pairs
  pub bytes : HaveBytes pairs

-- the node has pairs
abbrev pub IsSoundNode : PageNode → Type 0
IsSoundNode node = HasSomePairs node.pairs

-- and so have all nodes of a level that was read, and of all such levels
abbrev pub IsSoundLevel : PathLevel → Type 0
IsSoundLevel level = AllByRecursion IsSoundNode level.nodes

abbrev pub AreSound : List PathLevel → Type 0
AreSound path = AllByRecursion IsSoundLevel path

-- the nodes that these pairs name
abbrev pub named_on : Pages → List Pair → List PageNode
named_on at pairs = map (λ pair. node_on at pair.page) pairs

-- the pairs of the lowest level
abbrev pub lowest_pairs : List PathLevel → List Pair
lowest_pairs [] = []
lowest_pairs (level ∷ path) = pairs_of_level level.nodes

-- the nodes of each level of a way
abbrev pub levels_of : List PathLevel → List (List PageNode)
levels_of path = map (λ level. level.nodes) path

-- a node that was made: it has pairs, and at most f of them
pub record IsMade (f : ℕ) (node : PageNode) : Type 0 where
  pub pairs : HasSomePairs node.pairs
  pub most : length node.pairs ≤ f

-- so is each made node of these levels
abbrev pub AreAllMade : ℕ → List Remade → Type 0
AreAllMade f levels = AllByRecursion (λ level. AllByRecursion (IsMade f) level.made) levels

-- how many nodes are made on these levels
abbrev pub made_count : List Remade → ℕ
made_count levels = sum_by (λ level. length level.made) levels

-- each made node of these levels, of which the lowest is k, stands on its page
abbrev pub MadeStand : Pages → ℕ → List Remade → Type 0
MadeStand at k [] = Unit {0}
MadeStand at k (level ∷ levels) =
    AllByRecursion (λ node. NodeBytes (at node.page) k node.pairs) level.made
    × MadeStand at (suc k) levels

-- The page of the first node of the highest of these new levels. Above the way, and where a level
-- of it has no node that stays, it is a made one.
abbrev pub top_of : List PathLevel → List Remade → ℕ
top_of path [] = 0
top_of [] (level ∷ []) = top_page (rebuilt [] level).nodes
top_of (old ∷ path) (level ∷ []) = top_page (rebuilt old.nodes level).nodes
top_of [] (level ∷ next ∷ levels) = top_of [] (next ∷ levels)
top_of (old ∷ path) (level ∷ next ∷ levels) = top_of path (next ∷ levels)

-- the root of the tree with these new levels in the place of those of the way
abbrev pub root_with : List PathLevel → List Remade → ℕ → Root
root_with path [] bytes = record { height = 0; page = 0; length = bytes }
root_with path (level ∷ levels) bytes =
    if nat_eq level.size 0 then record { height = 0; page = 0; length = bytes }
    else record {
      height = length (level ∷ levels);
      page = top_of path (level ∷ levels);
      length = bytes;
    }
