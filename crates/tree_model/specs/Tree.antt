-- The tree of an object on pages: which pages make one, and what its entries are.
use Rattle.std.specs.Prelude.{◌≡◌, ℕ, zero, suc, ◌+◌, ◌-◌, ◌*◌, ◌/◌, ◌≤◌, List, [], ◌∷◌, length}
use Rattle.std.specs.Prelude.{IsTrue, if◌then◌else◌, nat_eq}
use Rattle.std.specs.List.{AllByRecursion, flat_map, sum_by}
use Rattle.geometry_model.specs.Numbers.{Numbers, space_pages}
use Rattle.geometry_model.specs.Pages.{IsInSpace, is_data_page}
use Rattle.tree_model.specs.declared.entry.Pair.{Pair}
use Rattle.tree_model.specs.declared.tree.Root.{Root}
use Rattle.tree_model.specs.Node.{HoldsNode, node_in, room_of}

-- what stands on each page, by the page's number; nothing where nobody holds it
abbrev pub Pages : Type 0
Pages = ℕ → List ℕ

-- the bytes under these pairs
abbrev pub bytes_of : List Pair → ℕ
bytes_of pairs = sum_by (λ p. p.bytes) pairs

-- the pages that so many bytes fill, the last one maybe in part
abbrev pub page_count : ℕ → ℕ → ℕ
page_count size bytes = (bytes + (size - 1)) / size

-- the pairs of the node on a page
abbrev pub pairs_on : Pages → ℕ → List Pair
pairs_on at page = (node_in (at page)).pairs

-- a page holds a node of this level, with `least` pairs or more, and these bytes under them
pub record HasNode (at : Pages) (page level least bytes : ℕ) : Type 0 where
  pub held : HoldsNode (at page)
  pub is_level : (node_in (at page)).level ≡ level
  pub filled : least ≤ length (pairs_on at page)
  pub counted : bytes_of (pairs_on at page) ≡ bytes

-- the pairs of a node of level `height + 1` name what they should: above the lowest level each
-- names a node of the level below that is half full at least and has just the pair's bytes
abbrev pub AreTrees : Pages → ℕ → ℕ → List Pair → Type 0
AreTrees at half zero pairs = Unit {0}
AreTrees at half (suc height) pairs = AllByRecursion (λ p.
    HasNode at p.page (suc height) half p.bytes
    × AreTrees at half height (pairs_on at p.page)) pairs

-- the least number of pairs in a root
abbrev pub root_least : ℕ → ℕ
root_least height = if nat_eq height 1 then 1 else 2

-- a tree of this height: none at 0, and else a root with two pairs or more above level 1
abbrev pub IsTree : Pages → ℕ → ℕ → ℕ → ℕ → Type 0
IsTree at half zero page bytes = (page ≡ 0) × (bytes ≡ 0)
IsTree at half (suc height) page bytes =
    HasNode at page (suc height) (root_least (suc height)) bytes
    × AreTrees at half height (pairs_on at page)

-- the entries under the pairs of a node of level `height + 1`, from left to right
abbrev pub entries_under : Pages → ℕ → List Pair → List Pair
entries_under at zero pairs = pairs
entries_under at (suc height) pairs =
    flat_map (λ p. entries_under at height (pairs_on at p.page)) pairs

-- the entries of a tree
abbrev pub entries_of : Pages → ℕ → ℕ → List Pair
entries_of at zero page = []
entries_of at (suc height) page = entries_under at height (pairs_on at page)

-- the pages of the nodes under the pairs of a node of level `height + 1`
abbrev pub nodes_under : Pages → ℕ → List Pair → List ℕ
nodes_under at zero pairs = []
nodes_under at (suc height) pairs =
    flat_map (λ p. p.page ∷ nodes_under at height (pairs_on at p.page)) pairs

-- the pages of all nodes of a tree, each above those under it
abbrev pub nodes_of : Pages → ℕ → ℕ → List ℕ
nodes_of at zero page = []
nodes_of at (suc height) page = page ∷ nodes_under at height (pairs_on at page)

-- an entry names a segment of the store: a byte at least, at most a space, data pages of one space
pub record IsSegment (n : Numbers) (p : Pair) : Type 0 where
  pub some : 1 ≤ p.bytes
  pub most : p.bytes ≤ space_pages n * n.page
  pub together : (s : ℕ) × IsInSpace n s p.page (page_count n.page p.bytes)

-- the root has a tree on these pages, its nodes on data pages and its entries segments of the store
pub record IsTreeOf (n : Numbers) (at : Pages) (root : Root) (entries : List Pair) : Type 0 where
  pub shape : IsTree at (room_of n.page / 2) root.height root.page root.length
  pub listed : entries ≡ entries_of at root.height root.page
  pub nodes : AllByRecursion (λ page. IsTrue (is_data_page n page))
      (nodes_of at root.height root.page)
  pub segments : AllByRecursion (IsSegment n) entries
