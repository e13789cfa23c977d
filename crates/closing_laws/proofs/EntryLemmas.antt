-- The entry of a good version that stands on its pages: it fits its bytes, is one that an object may have, and shows
-- that version.
use Rattle.std.proofs.Common.{◌≡◌, ℕ, suc, ◌*◌, ◌/◌, ◌<◌, ◌≤◌, Bool, true, false, ◌&&◌, cond, IsTrue, Some, None, List, []}
use Rattle.std.proofs.Common.{◌∷◌, length, refl, ap, subst, arith, ◌∙◌, nat_eq, nat_lt, mul-le-mul_right}
use Rattle.std.specs.List.{AllByRecursion}
use Rattle.std.specs.Cmp.Derive.{both_true}
use Rattle.std.proofs.lemmas.Bool.{le-leb, lt-ltb, ne_eqb}
use Rattle.std.proofs.lemmas.List.Sums.{sum_by-cons}
use Rattle.geometry_model.specs.Numbers.{Numbers, IsInRange, pages, space_pages, fan_out}
use Rattle.geometry_model.specs.Pages.{is_data_page}
use Rattle.geometry_model.proofs.NumberLaws.{page_size-low, page_size-high, pages-high, space_pages-high}
use Rattle.tree_model.specs.declared.entry.Pair.{Pair}
use Rattle.tree_model.specs.Node.{IsPair}
use Rattle.tree_model.specs.Tree.{Pages, IsTree, IsTreeOf, HasNode, bytes_of, nodes_of, pairs_on, root_least}
use Rattle.layout_model.specs.Levels.{PageNode}
use Rattle.layout_model.specs.Layout.{Tree, tree_entries}
use Rattle.layout_model.specs.Pack.{Packed}
use Rattle.moment_model.specs.Version.{Version, IsGood, IsGoodVersion, version_uses, uses, segment_runs}
use Rattle.tree_pages.specs.Levels.{version_at}
use Rattle.tree_pages.specs.Stored.{AreStored, root_of, root_page}
use Rattle.tree_pages.proofs.TreeLemmas.{stored-levels, stored-tree_of}
use Rattle.image_model.specs.Catalog.{is_entry, is_root}
use Rattle.image_model.specs.Image.{HasTree}
use Rattle.image_laws.proofs.NodeLemmas.{data-below}
use Rattle.image_format.specs.Entries.{HasRoom}
use Rattle.closing_laws.specs.Closed.{version_entry, IsStored}
use Rattle.cost_laws.proofs.PagesUsed.{bytes-within}

-- the tree of a good version at the root of its levels
pub stored-is-tree : (n : Numbers) (at : Pages) (tree : Tree) → IsGood n tree → AreStored at 1 tree.levels →
    IsTreeOf n at (root_of tree.levels) (tree_entries tree)
stored-is-tree n at tree good stored = stored-tree_of n at tree.levels good.shape stored good.nodes good.segments

pub stored-has-tree : (n : Numbers) (at : Pages) (version : Version) → IsGoodVersion IsGood n version → IsStored at version →
    HasTree n at (version_entry version)
stored-has-tree n at None good stored = tt
stored-has-tree n at (Some tree) good stored =
    let whole = stored-is-tree n at tree good stored in (
      subst (IsTreeOf n at (root_of tree.levels)) whole.listed whole,
      subst (Packed n.page tree.threshold) whole.listed good.neighbours,
    )

-- the entry shows the version
pub stored-shows : (n : Numbers) (at : Pages) (version : Version) → IsGoodVersion IsGood n version → IsStored at version →
    version_at at (version_entry version) ≡ version
stored-shows n at None good stored = refl
stored-shows n at (Some tree) good stored =
    ap (λ levels. let version : Version = Some (record { levels = levels; threshold = tree.threshold }) in version)
    (stored-levels (fan_out n) at tree.levels good.shape stored)

-- pairs have as many bytes as they are, or more
pairs-bytes : (pairs : List Pair) → AllByRecursion IsPair pairs → length pairs ≤ bytes_of pairs
pairs-bytes [] each = omega arith
pairs-bytes (p ∷ ps) each =
    let whole = sum_by-cons (λ (x : Pair). x.bytes) p ps in
    let some = each.0.some in
    omega (arith, whole, some, pairs-bytes ps each.1)

least-some : (height : ℕ) → 1 ≤ root_least height
least-some height = by-test (nat_eq height 1)
  where
    by-test : (b : Bool) → 1 ≤ cond b 1 2
    by-test true = let low : 1 ≤ 1 = omega arith in low
    by-test false = let low : 1 ≤ 2 = omega arith in low

-- a root that is there names some bytes
root-bytes : (at : Pages) (page level bytes : ℕ) → HasNode at page level (root_least level) bytes → 0 < bytes
root-bytes at page level bytes node =
    let pairs = pairs-bytes (pairs_on at page) node.held.sound.each in
    let least = least-some level in
    let filled = node.filled in
    let counted = node.counted in
    omega (arith, pairs, least, filled, counted)

-- the root of such levels is one that an entry may have
root-allowed : (at : Pages) (half : ℕ) (levels : List (List PageNode)) →
    IsTree at half (root_of levels).height (root_of levels).page (root_of levels).length → IsTrue (is_root (root_of levels))
root-allowed at half [] shape = refl
root-allowed at half (nodes ∷ above) shape =
    let root = root_of (nodes ∷ above) in
    let high : nat_eq root.height 0 ≡ false = ne_eqb root.height 0 (λ none. absurd (omega (arith, none))) in
    ap (λ (b : Bool). cond b (nat_eq root.page 0 && nat_eq root.length 0) (nat_lt 0 root.length)) high
    ∙ lt-ltb 0 root.length (root-bytes at root.page (suc (length above)) root.length shape.0)

pub stored-allowed : (n : Numbers) (at : Pages) (version : Version) → IsGoodVersion IsGood n version → IsStored at version →
    IsTrue (is_entry n (version_entry version))
stored-allowed n at None good stored = refl
stored-allowed n at (Some tree) good stored =
    let whole = stored-is-tree n at tree good stored in
    both_true (root-allowed at (fan_out n / 2) tree.levels whole.shape) (both_true (le-leb 1 tree.threshold good.threshold_low)
    (le-leb (2 * tree.threshold) (space_pages n) good.threshold_high))

-- the page of a root is a page of the store, or 0
root-page : (n : Numbers) (at : Pages) (levels : List (List PageNode)) →
    AllByRecursion (λ page. IsTrue (is_data_page n page)) (nodes_of at (root_of levels).height (root_of levels).page) →
    (root_of levels).page < pages n
root-page n at [] on_data = omega arith
root-page n at (nodes ∷ above) on_data = data-below n (root_page (nodes ∷ above)) on_data.0

-- the entry fits its bytes
pub stored-room : (n : Numbers) (at : Pages) (version : Version) → IsInRange n → IsGoodVersion IsGood n version →
    IsStored at version → ((page : ℕ) → version_uses n page version ≤ 1) → HasRoom (version_entry version)
stored-room n at None range good stored once = tt
stored-room n at (Some tree) range good stored once =
    let whole = stored-is-tree n at tree good stored in
    let low = page_size-low n.page range.page_size in
    let high = page_size-high n.page range.page_size in
    let most = pages-high n range in
    let space = space_pages-high n range in
    let root = root-page n at tree.levels whole.nodes in
    let alone : (page : ℕ) → uses page (segment_runs n tree) ≤ 1 = λ page. omega (arith, once page) in
    let bytes = bytes-within n (tree_entries tree) (omega (arith, low)) good.segments alone in
    let rows : pages n * n.page ≤ 4194577 * n.page = mul-le-mul_right n.page most in
    let threshold = good.threshold_high in
    (omega (arith, root, most), omega (arith, bytes, rows, high), omega (arith, threshold, space))
