-- Trees of the store and the levels of their nodes, whole.
use Rattle.std.proofs.Common.{◌≡◌, ℕ, zero, suc, ◌+◌, ◌/◌, ◌≤◌, Some, None, IsTrue, List, [], ◌∷◌, ◌++◌, length}
use Rattle.std.proofs.Common.{map, refl, sym, ap, subst, arith, ◌∙◌}
use Rattle.std.specs.List.{AllByRecursion}
use Rattle.std.specs.Prelude.{count_by, nat_eq}
use Rattle.std.proofs.lemmas.List.{append-nil}
use Rattle.std.proofs.lemmas.List.Sums.{sum_by-cons, sum_by-append}
use Rattle.geometry_model.specs.Numbers.{Numbers, fan_out}
use Rattle.geometry_model.specs.Pages.{is_data_page}
use Rattle.eos_ops.specs.declared.plain.Plain.TheVariants as plain
use Rattle.tree_model.specs.declared.entry.Pair.{Pair}
use Rattle.tree_model.specs.declared.tree.Root.{Root}
use Rattle.tree_model.specs.Content.{content}
use Rattle.tree_model.specs.Tree.{Pages, pairs_on, bytes_of, AreTrees, HasNode, IsSegment, IsTree, IsTreeOf}
use Rattle.tree_model.specs.Tree.{root_least, entries_under, entries_of, nodes_under, nodes_of}
use Rattle.tree_model.proofs.TreeLemmas.{bytes_of-entries_under}
use Rattle.layout_model.specs.Levels.{PageNode, entries_of_levels}
use Rattle.moment_model.specs.Version.{AreFilled, AreLevels, StandOnData, uses, segment_run, segment_uses, node_uses}
use Rattle.tree_pages.specs.Entry.{Entry, Present}
use Rattle.tree_pages.specs.Levels.{node_on, levels_down, levels_at, version_at, plain_at, version_plain}
use Rattle.tree_pages.specs.Stored.{AreWithin, AreStored, StaysOn, root_page, top_page, root_of, HasLevels}
use Rattle.tree_pages.proofs.DownLemmas.{down-entries, down-length}
use Rattle.tree_pages.proofs.ShapeLemmas.{StandsAt, down-shape, down-stored}
use Rattle.tree_pages.proofs.UpLemmas.{AllOn, up-levels, up-tree, down-on, on-down}
use Rattle.tree_pages.proofs.CountLemmas.{tree-uses, all-counted}
use Rattle.tree_pages.proofs.FrameLemmas.{Stays, levels-stay, tree-stays, tree_nodes-stay, tree_entries-stay, content-stays}

-- ---- bytes

pub tree-bytes : (at : Pages) (half height page bytes : ℕ) → IsTree at half height page bytes → bytes_of (entries_of at height page) ≡ bytes
tree-bytes at half zero page bytes tree = sym tree.1
tree-bytes at half (suc height) page bytes tree = bytes_of-entries_under at half height (pairs_on at page) tree.1 ∙ tree.0.counted

-- ---- from a tree to its levels

-- the entries of the levels are those of the tree
pub levels-entries : (at : Pages) (height page : ℕ) →
    entries_of_levels (levels_down at height (node_on at page ∷ [])) ≡ entries_of at height page
levels-entries at zero page = refl
levels-entries at (suc height) page =
    ap entries_of_levels (sym (append-nil (levels_down at (suc height) (node_on at page ∷ []))))
    ∙ (down-entries at height (node_on at page ∷ []) [] ∙ ap (entries_under at height) (append-nil (pairs_on at page)))

-- the page of the highest level
page-last : (levels : List (List PageNode)) (nodes : List PageNode) → root_page (levels ++ nodes ∷ []) ≡ top_page nodes
page-last [] nodes = refl
page-last (first ∷ []) nodes = refl
page-last (first ∷ next ∷ rest) nodes = page-last (next ∷ rest) nodes

pub levels-page : (at : Pages) (half height page bytes : ℕ) → IsTree at half height page bytes →
    root_page (levels_down at height (node_on at page ∷ [])) ≡ page
levels-page at half zero page bytes tree = sym tree.0
levels-page at half (suc height) page bytes tree = page-last (levels_down at height _) (node_on at page ∷ [])

pub levels-length : (at : Pages) (height page : ℕ) → length (levels_down at height (node_on at page ∷ [])) ≡ height
levels-length at height page =
    let all = ap length (append-nil (levels_down at height (node_on at page ∷ []))) in
    let long = down-length at height (node_on at page ∷ []) [] in
    omega (arith, all, long)

-- the levels' root is the root that they were read from
pub levels-root : (at : Pages) (half : ℕ) (root : Root) → IsTree at half root.height root.page root.length →
    root_of (levels_at at root) ≡ root
levels-root at half root tree =
    let height = levels-length at root.height root.page in
    let page = levels-page at half root.height root.page root.length tree in
    let bytes = ap bytes_of (levels-entries at root.height root.page) ∙ tree-bytes at half root.height root.page root.length tree in
    ap (λ (h : ℕ). record {
      height = h;
      page = root_page (levels_at at root);
      length =
          bytes_of (entries_of_levels (levels_at at root));
    }) height
    ∙ (ap (λ (p : ℕ). record { height = root.height; page = p; length = bytes_of (entries_of_levels (levels_at at root)) }) page
    ∙ ap (λ (b : ℕ). record { height = root.height; page = root.page; length = b }) bytes)

-- the shape of the levels, and that each node stands on its page
pub levels-shape : (n : Numbers) (at : Pages) (height page bytes : ℕ) → AreWithin n.page at → IsTree at (fan_out n / 2) height page bytes →
    AreLevels (fan_out n) (levels_down at height (node_on at page ∷ [])) × AreStored at 1 (levels_down at height (node_on at page ∷ []))
levels-shape n at zero page bytes within tree = (tt, tt)
levels-shape n at (suc height) page bytes within tree =
    let nodes = node_on at page ∷ [] in
    let has = tree.0 in
    let stands : AllByRecursion (StandsAt at (suc height)) nodes = (root-stands has, tt) in
    let one : 1 ≤ 1 = omega arith in
    let room = has.held.sound.room in
    let most = within page in
    let filled : AreFilled (fan_out n) (root_least (suc height)) nodes =
    (record { low = has.filled; high = omega (arith, room, most) }, tt) in
    let trees = subst (AreTrees at (fan_out n / 2) height) (sym (append-nil (pairs_on at page))) tree.1 in
    let none : 1 ≡ 1 = refl in
    let all = append-nil (levels_down at (suc height) nodes) in (
      subst (AreLevels (fan_out n)) all (down-shape at n.page height nodes [] within one stands filled trees none),
      subst (AreStored at 1) all (down-stored at (fan_out n / 2) height nodes [] stands trees tt),
    )
  where
    root-stands : {least : ℕ} → HasNode at page (suc height) least bytes → StandsAt at (suc height) (node_on at page)
    root-stands has = subst (λ k. StandsAt at k (node_on at page)) has.is_level has.held

-- what holds of the pages of all nodes holds on all levels, and the other way
pub nodes-on : (P : ℕ → Type 0) (at : Pages) (height page : ℕ) → AllByRecursion P (nodes_of at height page) →
    AllByRecursion (AllOn P) (levels_down at height (node_on at page ∷ []))
nodes-on P at zero page all = tt
nodes-on P at (suc height) page all =
    subst (AllByRecursion (AllOn P)) (append-nil (levels_down at (suc height) (node_on at page ∷ [])))
    (down-on P at height (node_on at page ∷ []) [] (all.0, tt)
    (subst (λ ps. AllByRecursion P (nodes_under at height ps)) (sym (append-nil (pairs_on at page))) all.1) tt)

pub on-nodes : (P : ℕ → Type 0) (at : Pages) (height page : ℕ) →
    AllByRecursion (AllOn P) (levels_down at height (node_on at page ∷ [])) →
    AllByRecursion P (nodes_of at height page)
on-nodes P at zero page all = tt
on-nodes P at (suc height) page all =
    let parts = on-down P at height (node_on at page ∷ []) [] (subst (AllByRecursion (AllOn P))
    (sym (append-nil (levels_down at (suc height) (node_on at page ∷ [])))) all) in
    (parts.0.0, subst (λ ps. AllByRecursion P (nodes_under at height ps)) (append-nil (pairs_on at page)) parts.1)

pub tree-levels : (n : Numbers) (at : Pages) (root : Root) (entries : List Pair) → AreWithin n.page at →
    IsTreeOf n at root entries → HasLevels n at root entries
tree-levels n at root entries within tree =
    let shape = levels-shape n at root.height root.page root.length within tree.shape in
    record {
      shape = shape.0;
      nodes = nodes-on (λ page. IsTrue (is_data_page n page)) at root.height root.page tree.nodes;
      stored = shape.1;
      listed = levels-entries at root.height root.page ∙ sym tree.listed;
      back = levels-root at (fan_out n / 2) root tree.shape;
    }

pub tree-counts : (n : Numbers) (at : Pages) (root : Root) (entries : List Pair) → IsTreeOf n at root entries →
    bytes_of entries ≡ root.length
tree-counts n at root entries tree = ap bytes_of tree.listed ∙ tree-bytes at (fan_out n / 2) root.height root.page root.length tree.shape

-- ---- from levels to the tree

pub stored-levels : (f : ℕ) (at : Pages) (levels : List (List PageNode)) → AreLevels f levels →
    AreStored at 1 levels → levels_at at (root_of levels) ≡ levels
stored-levels f at [] shape stored = refl
stored-levels f at (nodes ∷ above) shape stored =
    let high : suc (length above) ≡ 1 + length above = omega arith in
    ap (λ (h : ℕ). levels_down at h (node_on at (root_page (nodes ∷ above)) ∷ [])) high ∙ up-levels at f 1 1 nodes above stored shape.1

pub stored-tree : (f : ℕ) (at : Pages) (levels : List (List PageNode)) → AreLevels f levels → AreStored at 1 levels →
    IsTree at (f / 2) (root_of levels).height (root_of levels).page (root_of levels).length
stored-tree f at [] shape stored = (refl, refl)
stored-tree f at (nodes ∷ above) shape stored =
    let high : suc (length above) ≡ 1 + length above = omega arith in
    up-tree at f 0 (suc (length above)) nodes above high tt shape.0 shape.1 stored

pub stored-tree_of : (n : Numbers) (at : Pages) (levels : List (List PageNode)) → AreLevels (fan_out n) levels →
    AreStored at 1 levels → StandOnData n levels →
    AllByRecursion (IsSegment n) (entries_of_levels levels) → IsTreeOf n at (root_of levels) (entries_of_levels levels)
stored-tree_of n at levels shape stored placed segments =
    let root = root_of levels in
    let back = stored-levels (fan_out n) at levels shape stored in
    record {
      shape = stored-tree (fan_out n) at levels shape stored;
      listed = ap entries_of_levels (sym back) ∙ levels-entries at root.height root.page;
      nodes = on-nodes (λ page. IsTrue (is_data_page n page)) at root.height root.page (subst (StandOnData n) (sym back) placed);
      segments = segments;
    }

-- ---- counts, and what stays

pub entry-nodes : (q : ℕ) (at : Pages) (present : Present) →
    node_uses q (version_at at (Some present)) ≡ count_by (nat_eq q)
    (nodes_of at present.root.height present.root.page)
entry-nodes q at present = tree-uses q at present.root

pub entry-segments : (n : Numbers) (q : ℕ) (at : Pages) (present : Present) →
    segment_uses n q (version_at at (Some present))
    ≡ uses q (map (segment_run n.page) (entries_of at present.root.height present.root.page))
entry-segments n q at present = ap (λ (entries : List Pair). uses q (map (segment_run n.page) entries))
    (levels-entries at present.root.height present.root.page)

pub tree_of-stays : (n : Numbers) (at now : Pages) (root : Root) (entries : List Pair) →
    AllByRecursion (Stays at now) (nodes_of at root.height root.page) →
    IsTreeOf n at root entries → IsTreeOf n now root entries
tree_of-stays n at now root entries same tree = record {
  shape = tree-stays at now (fan_out n / 2) root.height root.page root.length same tree.shape;
  listed = tree.listed ∙ sym (tree_entries-stay at now root.height root.page same);
  nodes = subst (AllByRecursion (λ page. IsTrue (is_data_page n page)))
      (sym (tree_nodes-stay at now root.height root.page same)) tree.nodes;
  segments = tree.segments;
}

-- where a version's pages stay, so do those of its nodes
pub version-nodes : (n : Numbers) (at now : Pages) (present : Present) → StaysOn n (version_at at (Some present)) at now →
    AllByRecursion (Stays at now) (nodes_of at present.root.height present.root.page)
version-nodes n at now present same =
    all-counted (Stays at now) (nodes_of at present.root.height present.root.page)
    (λ q some. let counted = entry-nodes q at present in same q (omega (arith, counted, some)))

pub version-stays : (n : Numbers) (at now : Pages) (entry : Entry) → StaysOn n (version_at at entry) at now →
    version_at now entry ≡ version_at at entry
version-stays n at now None same = refl
version-stays n at now (Some present) same =
    ap (λ (levels : List (List PageNode)). Some (record { levels = levels; threshold = present.threshold }))
    (levels-stay at now present.root.height present.root.page (version-nodes n at now present same))

pub plain-stays : (n : Numbers) (at now : Pages) (entry : Entry) → StaysOn n (version_at at entry) at now →
    plain_at now n.page entry ≡ plain_at at n.page entry
plain-stays n at now None same = refl
plain-stays n at now (Some present) same =
    let root = present.root in
    let entries = entries_of at root.height root.page in
    ap (λ (es : List Pair). plain.Present (content now n.page es))
    (tree_entries-stay at now root.height root.page (version-nodes n at now present same))
    ∙ ap plain.Present (content-stays at now n.page entries
    (λ q some. let counted = entry-segments n q at present in same q (omega (arith, counted, some))))

pub version_tree-stays : (n : Numbers) (at now : Pages) (present : Present) (entries : List Pair) →
    StaysOn n (version_at at (Some present)) at now →
    IsTreeOf n at present.root entries → IsTreeOf n now present.root entries
version_tree-stays n at now present entries same tree =
    tree_of-stays n at now present.root entries (version-nodes n at now present same) tree

-- the bytes that an entry shows are those of the version that it shows
pub entry-plain : (at : Pages) (size : ℕ) (entry : Entry) → plain_at at size entry ≡ version_plain at size (version_at at entry)
entry-plain at size None = refl
entry-plain at size (Some present) = ap (λ (es : List Pair). plain.Present (content at size es))
    (sym (levels-entries at present.root.height present.root.page))
