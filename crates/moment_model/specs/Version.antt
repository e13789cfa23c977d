-- A version of an object: absent, or a tree. When it is a good one, and how often it uses each
-- page.
use Rattle.std.specs.Prelude.{◌≡◌, ℕ, ◌+◌, ◌*◌, ◌/◌, ◌≤◌, ◌&&◌, IsTrue, Option, Some, None, List}
use Rattle.std.specs.Prelude.{[], ◌∷◌, length, map, sum_by, nat_eq, nat_le, nat_lt, if◌then◌else◌}
use Rattle.std.specs.List.{AllByRecursion, flat_map}
use Rattle.geometry_model.specs.Numbers.{Numbers, space_pages, fan_out}
use Rattle.geometry_model.specs.Pages.{is_data_page}
use Rattle.tree_model.specs.declared.entry.Pair.{Pair}
use Rattle.tree_model.specs.Tree.{page_count, bytes_of, IsSegment}
use Rattle.layout_model.specs.Pack.{Packed}
use Rattle.layout_model.specs.declared.extent.Extent.{Extent}
use Rattle.layout_model.specs.Levels.{PageNode, pair_of, pairs_of_level}
use Rattle.layout_model.specs.Layout.{Tree, tree_entries}

-- a version: none where the object is absent
abbrev pub Version : Type 0
Version = Option Tree

-- the number of its bytes
abbrev pub tree_bytes : Tree → ℕ
tree_bytes tree = bytes_of (tree_entries tree)

-- a node has at least `least` pairs and at most f
pub record IsFilled (f least : ℕ) (node : PageNode) : Type 0 where
  pub low : least ≤ length node.pairs
  pub high : length node.pairs ≤ f

-- the least number of pairs of a node: half of what it can hold, but `root` where it is alone on
-- its level
abbrev pub least_on : ℕ → ℕ → List PageNode → ℕ
least_on f root nodes = if nat_eq (length nodes) 1 then root else f / 2

abbrev pub AreFilled : ℕ → ℕ → List PageNode → Type 0
AreFilled f root nodes = AllByRecursion (IsFilled f (least_on f root nodes)) nodes

-- The levels above a level of nodes: the level with one node is the root's, and above another one
-- stands a level whose pairs name its nodes in order, each with the sum of its bytes.
abbrev pub Carries : ℕ → List PageNode → List (List PageNode) → Type 0
Carries f below [] = length below ≡ 1
Carries f below (nodes ∷ above) =
    (2 ≤ length below) × (pairs_of_level nodes ≡ map pair_of below) × AreFilled f 2 nodes
    × Carries f nodes above

-- the levels are those of a tree, the lowest first; an empty object has none
abbrev pub AreLevels : ℕ → List (List PageNode) → Type 0
AreLevels f [] = Unit {0}
AreLevels f (nodes ∷ above) = AreFilled f 1 nodes × Carries f nodes above

-- all nodes stand on data pages
abbrev pub StandOnData : Numbers → List (List PageNode) → Type 0
StandOnData n levels = AllByRecursion (AllByRecursion (λ node. IsTrue (is_data_page n node.page)))
    levels

-- a good tree: the shape, nodes on data pages, entries that are segments of the store, neighbours
-- of which one at least has as many pages as the threshold, and a threshold of at most half of a
-- space
pub record IsGood (n : Numbers) (tree : Tree) : Type 0 where
  pub shape : AreLevels (fan_out n) tree.levels
  pub nodes : StandOnData n tree.levels
  pub segments : AllByRecursion (IsSegment n) (tree_entries tree)
  pub neighbours : Packed n.page tree.threshold (tree_entries tree)
  pub threshold_low : 1 ≤ tree.threshold
  pub threshold_high : 2 * tree.threshold ≤ space_pages n

-- a version is good where it is absent, or where its tree is by the rule of its kind of body, as
-- by `IsGood`
abbrev pub IsGoodVersion : (Numbers → Tree → Type 0) → Numbers → Version → Type 0
IsGoodVersion good n None = Unit {0}
IsGoodVersion good n (Some tree) = good n tree

-- the number of bytes of a version, none where it is absent
abbrev pub version_bytes : Version → Option ℕ
version_bytes None = None
version_bytes (Some tree) = Some (tree_bytes tree)

-- 1 where the page is in the run, else 0
abbrev pub covers : ℕ → Extent → ℕ
covers page run = if nat_le run.page page && nat_lt page (run.page + run.pages) then 1 else 0

-- how often a page is used by these runs
abbrev pub uses : ℕ → List Extent → ℕ
uses page runs = sum_by (covers page) runs

-- the pages of a segment
abbrev pub segment_run : ℕ → Pair → Extent
segment_run size pair = record { page = pair.page; pages = page_count size pair.bytes }

-- the page of a node
abbrev pub node_run : PageNode → Extent
node_run node = record { page = node.page; pages = 1 }

abbrev pub segment_runs : Numbers → Tree → List Extent
segment_runs n tree = map (segment_run n.page) (tree_entries tree)

abbrev pub node_runs : Tree → List Extent
node_runs tree = flat_map (map node_run) tree.levels

-- how often the segments of a version use a page, and how often its nodes
abbrev pub segment_uses : Numbers → ℕ → Version → ℕ
segment_uses n page None = 0
segment_uses n page (Some tree) = uses page (segment_runs n tree)

abbrev pub node_uses : ℕ → Version → ℕ
node_uses page None = 0
node_uses page (Some tree) = uses page (node_runs tree)

-- how often a version uses a page
abbrev pub version_uses : Numbers → ℕ → Version → ℕ
version_uses n page version = segment_uses n page version + node_uses page version

-- how often a spare run uses a page
abbrev pub spare_uses : ℕ → Option Extent → ℕ
spare_uses page None = 0
spare_uses page (Some run) = covers page run
