-- Nodes by their numbers of pairs, and what is kept of a level that was made anew.
use Rattle.std.specs.Prelude.{ℕ, ◌-◌, ◌^◌, ◌<◌, List, [], ◌∷◌, ◌++◌, take, drop, length, map}
use Rattle.std.specs.Prelude.{nat_lt, if◌then◌else◌, suc}
use Rattle.std.specs.List.{AllByRecursion}
use Rattle.tree_model.specs.Tree.{bytes_of}
use Rattle.layout_model.specs.Levels.{PageNode, NewLevel, Site, level_with}
use Rattle.local_laws.specs.Path.{PathLevel}
use Rattle.tree_splice.specs.declared.remade.Remade.{Remade}
use Rattle.tree_splice.specs.declared.site.Site.{Site as Placing}

-- how many pairs each of these nodes has
abbrev pub counts_of : List PageNode → List ℕ
counts_of nodes = map (λ node. length node.pairs) nodes

-- the pages that these nodes stand on
abbrev pub row_pages : List PageNode → List ℕ
row_pages nodes = map (λ node. node.page) nodes

-- the node that has pair number `at`, where nodes have these numbers of pairs
abbrev pub number_at : List ℕ → ℕ → ℕ
number_at [] at = 0
number_at (count ∷ counts) at = if nat_lt at count then 0 else suc (number_at counts (at - count))

-- the code's site is this one
abbrev pub as_site : Placing → Site
as_site site = record { before = site.before; nodes = site.nodes }

-- the bytes under each of these nodes can be counted by the pair that names it
abbrev pub AreCounted : List PageNode → Type 0
AreCounted nodes = AllByRecursion (λ node. bytes_of node.pairs < 2 ^ 64) nodes

-- and so it is on each of these levels
abbrev pub AreAllCounted : List NewLevel → Type 0
AreAllCounted levels = AllByRecursion (λ level. AreCounted level.nodes) levels

-- what is kept of a new level: the made nodes, which old ones they replace, and how many nodes
-- there are
abbrev pub remade : NewLevel → Remade
remade level = record {
  from = level.from;
  count = level.count;
  size = length level.nodes;
  made = level.made;
}

-- the new level of which this is kept, where these were the old nodes
abbrev pub rebuilt : List PageNode → Remade → NewLevel
rebuilt nodes level =
    level_with nodes (record { before = level.from; nodes = level.count }) level.made

-- the pages of the nodes on a way that these levels replace, and of all nodes of a level in whose
-- place none stands
abbrev pub pages_left : List PathLevel → List Remade → List ℕ
pages_left [] levels = []
pages_left (old ∷ path) [] = row_pages old.nodes ++ pages_left path []
pages_left (old ∷ path) (new ∷ levels) =
    take new.count (drop new.from (row_pages old.nodes)) ++ pages_left path levels
