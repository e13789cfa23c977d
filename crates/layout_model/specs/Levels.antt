-- The nodes of a tree level by level, the lowest first, and what becomes of them when a run of
-- entries is exchanged for others.
use Rattle.std.specs.Prelude.{ℕ, zero, suc, ◌+◌, ◌-◌, ◌/◌, ◌%◌, Bool, true, false, ◌&&◌, List, []}
use Rattle.std.specs.Prelude.{◌∷◌, ◌++◌, length, map, take, drop, replicate, sum_by, nat_eq}
use Rattle.std.specs.Prelude.{nat_le, nat_lt, if◌then◌else◌}
use Rattle.std.specs.List.{flat_map}
use Rattle.tree_model.specs.declared.entry.Pair.{Pair}
use Rattle.tree_model.specs.Tree.{bytes_of}

-- a node and the page that it stands on
pub record PageNode : Type 0 where
  pub page : ℕ
  pub pairs : List Pair

-- the pair that names a node: the sum of its bytes, and its page
abbrev pub pair_of : PageNode → Pair
pair_of node = record { bytes = bytes_of node.pairs; page = node.page }

-- all pairs of a level in order
abbrev pub pairs_of_level : List PageNode → List Pair
pairs_of_level nodes = flat_map (λ node. node.pairs) nodes

-- the entries of a tree: the pairs of its lowest level
abbrev pub entries_of_levels : List (List PageNode) → List Pair
entries_of_levels [] = []
entries_of_levels (level ∷ above) = pairs_of_level level

-- the node of a level that has pair number `at`, counted from 0
abbrev pub node_at : List PageNode → ℕ → ℕ
node_at [] at = 0
node_at (node ∷ rest) at = if nat_lt at (length node.pairs) then 0 else suc
    (node_at rest (at - length node.pairs))

-- The first node that is touched where `count` pairs from number `from` on are replaced: it has
-- the first of them. Where none is replaced it has the pair before the place, and is the first
-- node at the front.
abbrev pub first_touched : List PageNode → ℕ → ℕ → ℕ
first_touched nodes from count = node_at nodes (if nat_eq count 0 then from - 1 else from)

-- the number of touched nodes: up to the one that has the last replaced pair
abbrev pub count_touched : List PageNode → ℕ → ℕ → ℕ
count_touched nodes from count = suc (node_at nodes (from + count - 1)) - first_touched nodes from
    count

-- a run of a level's nodes: so many nodes stand before it, and so many are in it
pub record Site : Type 0 where
  pub before : ℕ
  pub nodes : ℕ

abbrev pub touched_site : List PageNode → ℕ → ℕ → Site
touched_site nodes from count = record {
  before = first_touched nodes from count;
  nodes = count_touched nodes from count;
}

-- the nodes of a site
abbrev pub nodes_at : List PageNode → Site → List PageNode
nodes_at nodes site = take site.nodes (drop site.before nodes)

-- the pairs of the touched nodes with the replaced ones exchanged for the fresh ones
abbrev pub exchanged : List PageNode → Site → ℕ → ℕ → List Pair → List Pair
exchanged nodes site from count fresh =
    let skipped = from - length (pairs_of_level (take site.before nodes)) in
    take skipped (pairs_of_level (nodes_at nodes site))
    ++ (fresh ++ drop (skipped + count) (pairs_of_level (nodes_at nodes site)))

-- one untouched node joins where some pairs are left, and fewer than half of a node: the one just
-- before, or the one just after where none is before
abbrev pub joins : ℕ → List PageNode → Site → ℕ → Bool
joins f nodes site pairs = nat_lt 0 pairs &&
    (nat_lt pairs (f / 2) && nat_lt site.nodes (length nodes))

abbrev pub joined : List PageNode → Site → Site
joined nodes site =
    if nat_lt 0 site.before
    then record { before = site.before - 1; nodes = site.nodes + 1 }
    else record { before = 0; nodes = site.nodes + 1 }

-- the nodes that are made anew on a level: the touched ones, and the one that joins them
abbrev pub site_of : ℕ → List PageNode → ℕ → ℕ → List Pair → Site
site_of f nodes from count fresh =
    let at = touched_site nodes from count in
    if joins f nodes at (length (exchanged nodes at from count fresh)) then joined nodes at else at

-- the numbers of pairs of the nodes that n pairs are cut into: as few nodes as hold them, as even
-- as possible, the larger ones first; no pair, no node
abbrev pub sizes_of : ℕ → ℕ → List ℕ
sizes_of f n =
    let nodes = (n + (f - 1)) / f in
    replicate (n % nodes) (n / nodes + 1) ++ replicate (nodes - n % nodes) (n / nodes)

-- a list cut into runs of these lengths
abbrev pub cut_into : {A : Type 0} → List ℕ → List A → List (List A)
cut_into [] items = []
cut_into (n ∷ ns) items = take n items ∷ cut_into ns (drop n items)

-- nodes of these pairs on the first of these pages (on page 0 where none is left)
abbrev pub on_pages : List ℕ → List (List Pair) → List PageNode
on_pages pages [] = []
on_pages [] (pairs ∷ rest) = record { page = 0; pairs = pairs } ∷ on_pages [] rest
on_pages (page ∷ pages) (pairs ∷ rest) = record { page = page; pairs = pairs } ∷ on_pages pages rest

-- What a level becomes. At the level above, `count` pairs from number `from` on are replaced by
-- those that name the made nodes.
pub record NewLevel : Type 0 where
  pub nodes : List PageNode
  pub from : ℕ
  pub count : ℕ
  pub made : List PageNode

-- a level of which a site is exchanged for made nodes
abbrev pub level_with : List PageNode → Site → List PageNode → NewLevel
level_with nodes site made = record {
  nodes = take site.before nodes ++ (made ++ drop (site.before + site.nodes) nodes);
  from = site.before;
  count = site.nodes;
  made = made;
}

-- the level after the exchange, the made nodes on the first of these pages
abbrev pub level_after : ℕ → List PageNode → ℕ → ℕ → List Pair → List ℕ → NewLevel
level_after f nodes from count fresh pages =
    let site = site_of f nodes from count fresh in
    let pairs = exchanged nodes site from count fresh in
    level_with nodes site (on_pages pages (cut_into (sizes_of f (length pairs)) pairs))

-- a new level of at most one node is the highest: that node is the root, and no level stands
-- above it
abbrev pub is_top : NewLevel → Bool
is_top level = nat_le (length level.nodes) 1

-- levels above the old root, cut from the pairs of the level below until there is one node
abbrev pub raised_levels : ℕ → ℕ → NewLevel → List ℕ → List NewLevel
raised_levels zero f below pages = below ∷ []
raised_levels (suc steps) f below pages =
    elim (is_top below) [
      | true ↦ below ∷ []
      | false ↦ below ∷ raised_levels steps f
          (level_after f [] 0 0 (map pair_of below.nodes) (drop (length below.made) pages))
          (drop (length below.made) pages)
    ]

-- the levels from a new one on, above which these old levels stand
abbrev pub new_levels_from : ℕ → NewLevel → List (List PageNode) → List ℕ → List NewLevel
new_levels_from f below [] pages = raised_levels (length below.nodes) f below pages
new_levels_from f below (nodes ∷ above) pages =
    elim (is_top below) [
      | true ↦ below ∷ []
      | false ↦ below ∷ new_levels_from f
          (level_after f nodes below.from below.count (map pair_of below.made)
          (drop (length below.made) pages))
          above (drop (length below.made) pages)
    ]

-- The new levels where `count` entries from number `from` on are exchanged for the fresh ones.
-- The made nodes stand on the given pages, from the lowest level upwards and from left to right.
-- A level with one node is the root's: none is made above it, so no root above level 1 has one
-- pair.
unfoldable pub spliced : ℕ → List (List PageNode) → ℕ → ℕ → List Pair → List ℕ → List NewLevel
spliced f [] from count fresh pages = new_levels_from f (level_after f [] 0 0 fresh pages) [] pages
spliced f (nodes ∷ above) from count fresh pages =
    new_levels_from f (level_after f nodes from count fresh pages) above pages

-- a tree with no entry has no level
abbrev pub unless_empty : List NewLevel → List NewLevel
unless_empty [] = []
unless_empty (level ∷ above) = if nat_eq (length level.nodes) 0 then [] else level ∷ above

-- the levels as nodes on pages
abbrev pub nodes_of_levels : List NewLevel → List (List PageNode)
nodes_of_levels levels = map (λ level. level.nodes) (unless_empty levels)

-- how many nodes are made
abbrev pub count_made : List NewLevel → ℕ
count_made levels = sum_by (λ level. length level.made) levels
