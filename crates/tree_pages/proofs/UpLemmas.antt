-- From levels that stand on pages to a tree, and what holds of the pages of all nodes, in both forms.
use Rattle.std.proofs.Common.{◌≡◌, ℕ, zero, suc, ◌+◌, ◌/◌, ◌≤◌, Bool, false, cond, List, [], ◌∷◌, ◌++◌, length, map}
use Rattle.std.proofs.Common.{refl, sym, ap, subst, arith, ◌∙◌, nat_eq}
use Rattle.std.specs.List.{AllByRecursion}
use Rattle.std.proofs.lemmas.Bool.{ne_eqb}
use Rattle.std.proofs.lemmas.List.{append-nil}
use Rattle.std.proofs.lemmas.List.Sums.{sum_by-cons, sum_by-append}
use Rattle.tree_model.specs.declared.entry.Pair.{Pair}
use Rattle.tree_model.specs.Node.{NodeBytes, node_in}
use Rattle.tree_model.specs.Tree.{Pages, pairs_on, bytes_of, HasNode, AreTrees, IsTree, root_least, nodes_under}
use Rattle.tree_model.proofs.NodeLemmas.{node_in-level, node_in-pairs}
use Rattle.layout_model.specs.Levels.{PageNode, pair_of, pairs_of_level}
use Rattle.moment_model.specs.Version.{IsFilled, AreFilled, Carries}
use Rattle.tree_pages.specs.Levels.{node_on, named_by, levels_down}
use Rattle.tree_pages.specs.Stored.{AreStored, root_page}
use Rattle.tree_pages.proofs.UnderLemmas.{all-flat_map, all-flatten, nodes-flat_map, trees-each}
use Rattle.tree_pages.proofs.DownLemmas.{pairs-named, down-step}
use Rattle.tree_pages.proofs.ShapeLemmas.{StandsAt}

-- a node that stands on its page is the one that the page shows
pub stands-node : (at : Pages) (k : ℕ) (node : PageNode) → StandsAt at k node → node_on at node.page ≡ node
stands-node at k node stands = ap (λ (ps : List Pair). record { page = node.page; pairs = ps })
    (node_in-pairs (at node.page) k node.pairs stands)

-- and the page has that node
pub stands-has : (at : Pages) (k least : ℕ) (node : PageNode) → StandsAt at k node → least ≤ length node.pairs →
    HasNode at node.page k least (bytes_of node.pairs)
stands-has at k least node stands enough =
    let page = at node.page in
    let level : (node_in page).level ≡ k = node_in-level page k node.pairs stands in
    let pairs : (node_in page).pairs ≡ node.pairs = node_in-pairs page k node.pairs stands in
    let at_level : NodeBytes page (node_in page).level node.pairs = subst (λ l. NodeBytes page l node.pairs) (sym level) stands in
    record {
      held = subst (λ ps. NodeBytes page (node_in page).level ps) (sym pairs) at_level;
      is_level = level;
      filled = subst (λ (ps : List Pair). least ≤ length ps) (sym pairs) enough;
      counted = ap bytes_of pairs;
    }

-- the nodes that names of stored nodes name
named-back : (at : Pages) (k : ℕ) (nodes below : List PageNode) → pairs_of_level nodes ≡ map pair_of below →
    AllByRecursion (StandsAt at k) below → named_by at nodes ≡ below
named-back at k nodes below names stand = ap (map (λ (p : Pair). node_on at p.page)) names ∙ back below stand
  where
    back : (below : List PageNode) → AllByRecursion (StandsAt at k) below →
        map (λ (p : Pair). node_on at p.page) (map pair_of below) ≡ below
    back [] stand = refl
    back (node ∷ rest) stand =
        ap (λ x. x ∷ map (λ (p : Pair). node_on at p.page) (map pair_of rest)) (stands-node at k node stand.0)
        ∙ ap (λ xs. node ∷ xs) (back rest stand.1)

-- the levels down from the root of stored levels are those levels
pub up-levels : (at : Pages) (f j k : ℕ) (below : List PageNode) (above : List (List PageNode)) →
    AreStored at j (below ∷ above) → Carries f below above →
    levels_down at (k + length above) (node_on at (root_page (below ∷ above)) ∷ []) ≡ levels_down at k below ++ above
up-levels at f j k [] [] stored carried = let none : 0 ≡ 1 = carried in absurd (omega (arith, none))
up-levels at f j k (node ∷ []) [] stored carried =
    let same : k + 0 ≡ k = omega arith in
    ap (λ (m : ℕ). levels_down at m (node_on at node.page ∷ [])) same
    ∙ (ap (λ (x : PageNode). levels_down at k (x ∷ [])) (stands-node at j node stored.0.0)
    ∙ sym (append-nil (levels_down at k (node ∷ []))))
up-levels at f j k (node ∷ next ∷ rest) [] stored carried = let many : suc (suc (length rest)) ≡ 1 = carried in absurd (omega (arith, many))
up-levels at f j k below (nodes ∷ up) stored carried =
    let same : k + suc (length up) ≡ suc k + length up = omega arith in
    ap (λ (m : ℕ). levels_down at m (node_on at (root_page (nodes ∷ up)) ∷ [])) same
    ∙ (up-levels at f (suc j) (suc k) nodes up stored.1 carried.3
    ∙ (down-step at k nodes up
    ∙ ap (λ (level : List PageNode). levels_down at k level ++ nodes ∷ up) (named-back at j nodes below carried.1 stored.0)))

-- names have the bytes of what they name
pub bytes-named : (nodes : List PageNode) → bytes_of (map pair_of nodes) ≡ bytes_of (pairs_of_level nodes)
bytes-named [] = refl
bytes-named (node ∷ rest) =
    let names = sum_by-cons (λ (p : Pair). p.bytes) (pair_of node) (map pair_of rest) in
    let pairs = sum_by-append (λ (p : Pair). p.bytes) node.pairs (pairs_of_level rest) in
    let more = bytes-named rest in
    omega (arith, names, pairs, more)

-- the least number of pairs above the lowest level, and on a level of two nodes or more
least-2 : (f j : ℕ) (nodes : List PageNode) → AreFilled f 2 nodes → AreFilled f (root_least (suc (suc j))) nodes
least-2 f j nodes filled =
    let other : nat_eq (suc (suc j)) 1 ≡ false = ne_eqb (suc (suc j)) 1 (λ one. omega (arith, one)) in
    subst (λ (b : Bool). AreFilled f (cond b 1 2) nodes) (sym other) filled

half-filled : (f root : ℕ) (nodes : List PageNode) → 2 ≤ length nodes → AreFilled f root nodes → AllByRecursion (IsFilled f (f / 2)) nodes
half-filled f root nodes many filled =
    let other : nat_eq (length nodes) 1 ≡ false = ne_eqb (length nodes) 1 (λ one. omega (arith, one, many)) in
    subst (λ (b : Bool). AllByRecursion (IsFilled f (cond b root (f / 2))) nodes) other filled

-- stored nodes under which trees stand are trees
up-trees : (at : Pages) (f j : ℕ) (nodes : List PageNode) → AllByRecursion (StandsAt at (suc j)) nodes →
    AllByRecursion (IsFilled f (f / 2)) nodes →
    AllByRecursion (λ node. AreTrees at (f / 2) j node.pairs) nodes → AreTrees at (f / 2) (suc j) (map pair_of nodes)
up-trees at f j [] stand filled trees = tt
up-trees at f j (node ∷ rest) stand filled trees = (
  (
    stands-has at (suc j) (f / 2) node stand.0 filled.0.low,
    subst (AreTrees at (f / 2) j) (sym (node_in-pairs (at node.page) (suc j) node.pairs stand.0)) trees.0,
  ),
  up-trees at f j rest stand.1 filled.1 trees.1,
)

-- the root of stored levels has a tree
pub up-tree : (at : Pages) (f j height : ℕ) (below : List PageNode) (above : List (List PageNode)) → height ≡ suc j + length above →
    AreTrees at (f / 2) j (pairs_of_level below) → AreFilled f (root_least (suc j)) below → Carries f below above →
    AreStored at (suc j) (below ∷ above) →
    IsTree at (f / 2) height (root_page (below ∷ above)) (bytes_of (pairs_of_level below))
up-tree at f j height [] [] high trees filled carried stored = let none : 0 ≡ 1 = carried in absurd (omega (arith, none))
up-tree at f j height (node ∷ []) [] high trees filled carried stored =
    let only : height ≡ suc j = omega (arith, high) in
    let pairs : node.pairs ++ [] ≡ node.pairs = append-nil node.pairs in
    let under : AreTrees at (f / 2) j node.pairs = subst (AreTrees at (f / 2) j) pairs trees in
    let bytes : bytes_of node.pairs ≡ bytes_of (node.pairs ++ []) = ap bytes_of (sym pairs) in
    let has = subst (HasNode at node.page (suc j) (root_least (suc j))) bytes (stands-has at (suc j)
    (root_least (suc j)) node stored.0.0 filled.0.low) in
    let whole : IsTree at (f / 2) (suc j) node.page (bytes_of (node.pairs ++ [])) =
    (has, subst (AreTrees at (f / 2) j) (sym (node_in-pairs (at node.page) (suc j) node.pairs stored.0.0)) under) in
    subst (λ (h : ℕ). IsTree at (f / 2) h node.page (bytes_of (node.pairs ++ []))) (sym only) whole
up-tree at f j height (node ∷ next ∷ rest) [] high trees filled carried stored =
    let many : suc (suc (length rest)) ≡ 1 = carried in absurd (omega (arith, many))
up-tree at f j height below (nodes ∷ up) high trees filled carried stored =
    let next : height ≡ suc (suc j) + length up = omega (arith, high) in
    let each = trees-each at (f / 2) j (λ (node : PageNode). node.pairs) below trees in
    let above = up-trees at f j below stored.0 (half-filled f (root_least (suc j)) below carried.0 filled) each in
    let named = subst (AreTrees at (f / 2) (suc j)) (sym carried.1) above in
    let bytes : bytes_of (pairs_of_level nodes) ≡ bytes_of (pairs_of_level below) = ap bytes_of carried.1 ∙ bytes-named below in
    subst (IsTree at (f / 2) height (root_page (nodes ∷ up))) bytes
    (up-tree at f (suc j) height nodes up next named (least-2 f j nodes carried.2) carried.3 stored.1)

-- the nodes of a level that satisfy a test of their pages
abbrev pub AllOn : (ℕ → Type 0) → List PageNode → Type 0
AllOn P nodes = AllByRecursion (λ node. P node.page) nodes

on-named : (P : ℕ → Type 0) (at : Pages) (pairs : List Pair) (Q : Pair → Type 0) → AllByRecursion (λ p. P p.page × Q p) pairs →
    AllOn P (map (λ (p : Pair). node_on at p.page) pairs) × AllByRecursion Q pairs
on-named P at [] Q each = (tt, tt)
on-named P at (p ∷ ps) Q each = let rest = on-named P at ps Q each.1 in ((each.0.0, rest.0), (each.0.1, rest.1))

on-pairs : (P : ℕ → Type 0) (at : Pages) (pairs : List Pair) (Q : Pair → Type 0) →
    AllOn P (map (λ (p : Pair). node_on at p.page) pairs) → AllByRecursion Q pairs →
    AllByRecursion (λ p. P p.page × Q p) pairs
on-pairs P at [] Q pages each = tt
on-pairs P at (p ∷ ps) Q pages each = ((pages.0, each.0), on-pairs P at ps Q pages.1 each.1)

-- what holds of the pages of first nodes and of those under them holds on all levels down
pub down-on : (P : ℕ → Type 0) (at : Pages) (height : ℕ) (nodes : List PageNode) (above : List (List PageNode)) → AllOn P nodes →
    AllByRecursion P (nodes_under at height (pairs_of_level nodes)) → AllByRecursion (AllOn P) above →
    AllByRecursion (AllOn P) (levels_down at (suc height) nodes ++ above)
down-on P at zero nodes above here under others = (here, others)
down-on P at (suc height) nodes above here under others =
    let pairs = pairs_of_level nodes in
    let Q : Pair → Type 0 = λ p. AllByRecursion P (nodes_under at height (pairs_on at p.page)) in
    let each = all-flat_map P (λ (p : Pair). p.page ∷ nodes_under at height (pairs_on at p.page)) pairs under in
    let parts = on-named P at pairs Q each in
    let next = all-flatten P (λ (p : Pair). nodes_under at height (pairs_on at p.page)) pairs parts.1 in
    let pages = ap (nodes_under at height) (pairs-named at nodes) ∙ nodes-flat_map at height (λ (p : Pair). pairs_on at p.page) pairs in
    subst (AllByRecursion (AllOn P)) (sym (down-step at (suc height) nodes above))
    (down-on P at height (named_by at nodes) (nodes ∷ above) parts.0 (subst (AllByRecursion P) (sym pages) next) (here, others))

-- and the other way
pub on-down : (P : ℕ → Type 0) (at : Pages) (height : ℕ) (nodes : List PageNode) (above : List (List PageNode)) →
    AllByRecursion (AllOn P) (levels_down at (suc height) nodes ++ above) →
    AllOn P nodes × AllByRecursion P (nodes_under at height (pairs_of_level nodes)) × AllByRecursion (AllOn P) above
on-down P at zero nodes above all = (all.0, tt, all.1)
on-down P at (suc height) nodes above all =
    let pairs = pairs_of_level nodes in
    let Q : Pair → Type 0 = λ p. AllByRecursion P (nodes_under at height (pairs_on at p.page)) in
    let parts = on-down P at height (named_by at nodes) (nodes ∷ above)
    (subst (AllByRecursion (AllOn P)) (down-step at (suc height) nodes above) all) in
    let pages = ap (nodes_under at height) (pairs-named at nodes) ∙ nodes-flat_map at height (λ (p : Pair). pairs_on at p.page) pairs in
    let each = all-flat_map P (λ (p : Pair). nodes_under at height (pairs_on at p.page)) pairs (subst (AllByRecursion P) pages parts.1) in (
      parts.2.0,
      all-flatten P (λ (p : Pair). p.page
          ∷ nodes_under at height (pairs_on at p.page)) pairs (on-pairs P at pairs Q parts.0 each),
      parts.2.1,
    )
