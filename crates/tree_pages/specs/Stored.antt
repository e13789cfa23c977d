-- Levels of nodes that stand on pages, and the root of such levels.
use Rattle.std.specs.Prelude.{◌≡◌, ℕ, suc, ◌<◌, ◌≤◌, List, [], ◌∷◌, length}
use Rattle.std.specs.List.{AllByRecursion}
use Rattle.geometry_model.specs.Numbers.{Numbers, fan_out}
use Rattle.tree_model.specs.declared.entry.Pair.{Pair}
use Rattle.tree_model.specs.declared.tree.Root.{Root}
use Rattle.tree_model.specs.Node.{NodeBytes}
use Rattle.tree_model.specs.Tree.{Pages, bytes_of}
use Rattle.layout_model.specs.Levels.{PageNode, entries_of_levels}
use Rattle.moment_model.specs.Version.{Version, version_uses, AreLevels, StandOnData}
use Rattle.tree_pages.specs.Levels.{levels_at}

-- no page has more than `size` bytes
abbrev pub AreWithin : ℕ → Pages → Type 0
AreWithin size at = (q : ℕ) → length (at q) ≤ size

-- each node of the levels stands on its page, and the lowest ones are of level k
abbrev pub AreStored : Pages → ℕ → List (List PageNode) → Type 0
AreStored at k [] = Unit {0}
AreStored at k (nodes ∷ above) =
    AllByRecursion (λ node. NodeBytes (at node.page) k node.pairs) nodes
    × AreStored at (suc k) above

-- the page of the first node of the highest level, and 0 where there is none
abbrev pub top_page : List PageNode → ℕ
top_page [] = 0
top_page (node ∷ rest) = node.page

abbrev pub root_page : List (List PageNode) → ℕ
root_page [] = 0
root_page (nodes ∷ []) = top_page nodes
root_page (nodes ∷ next ∷ above) = root_page (next ∷ above)

-- the root of levels: how many they are, the page of the only node of the highest, and the bytes
-- of all entries; all 0 where there is no level
abbrev pub root_of : List (List PageNode) → Root
root_of levels = record {
  height = length levels;
  page = root_page levels;
  length =
      bytes_of (entries_of_levels levels);
}

-- The tree at a root as levels: they have the shape, their nodes stand on data pages, each on the
-- page that it names, their entries are these, and the root is theirs.
pub record HasLevels (n : Numbers) (at : Pages) (root : Root) (entries : List Pair) : Type 0 where
  pub shape : AreLevels (fan_out n) (levels_at at root)
  pub nodes : StandOnData n (levels_at at root)
  pub stored : AreStored at 1 (levels_at at root)
  pub listed : entries_of_levels (levels_at at root) ≡ entries
  pub back : root_of (levels_at at root) ≡ root

-- each page that a version uses holds what it held
abbrev pub StaysOn : Numbers → Version → Pages → Pages → Type 0
StaysOn n version at now = (q : ℕ) → 0 < version_uses n q version → now q ≡ at q
