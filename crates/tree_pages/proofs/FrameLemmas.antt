-- What stays of a tree and of its bytes where its pages stay.
use Rattle.std.proofs.Common.{◌≡◌, ℕ, zero, suc, ◌+◌, ◌<◌, ◌≤◌, List, [], ◌∷◌, ◌++◌, length, map, take, refl, sym, ap, subst, arith, ◌∙◌}
use Rattle.std.specs.List.{AllByRecursion}
use Rattle.std.proofs.lemmas.List.{append-nil}
use Rattle.std.proofs.lemmas.List.Sums.{sum_by-cons}
use Rattle.std.proofs.lemmas.Bool.Decides.{nat_tests}
use Rattle.tree_model.specs.declared.entry.Pair.{Pair}
use Rattle.tree_model.specs.Node.{HoldsNode, node_in}
use Rattle.tree_model.specs.Tree.{Pages, pairs_on, bytes_of, page_count, HasNode, AreTrees, IsTree, root_least}
use Rattle.tree_model.specs.Tree.{entries_under, entries_of, nodes_under, nodes_of}
use Rattle.tree_model.specs.Content.{run_bytes, segment_bytes, content}
use Rattle.layout_model.specs.Levels.{PageNode, pairs_of_level}
use Rattle.moment_model.specs.Version.{covers, uses, segment_run}
use Rattle.tree_pages.specs.Levels.{node_on, named_by, levels_down}
use Rattle.tree_pages.proofs.UnderLemmas.{all-flat_map, all-flatten, nodes-flat_map}
use Rattle.tree_pages.proofs.DownLemmas.{pairs-named}

-- a page holds what it held
abbrev pub Stays : Pages → Pages → ℕ → Type 0
Stays at now page = now page ≡ at page

-- what holds of the nodes under pairs holds of the node that each names, and of those under it
pub under-each : (P : ℕ → Type 0) (at : Pages) (height : ℕ) (pairs : List Pair) → AllByRecursion P (nodes_under at (suc height) pairs) →
    AllByRecursion (λ p. P p.page × AllByRecursion P (nodes_under at height (pairs_on at p.page))) pairs
under-each P at height pairs all = all-flat_map P (λ (p : Pair). p.page ∷ nodes_under at height (pairs_on at p.page)) pairs all

-- and of those under all of them
pub under-next : (P : ℕ → Type 0) (at : Pages) (height : ℕ) (nodes : List PageNode) →
    AllByRecursion P (nodes_under at (suc height) (pairs_of_level nodes)) →
    AllByRecursion P (nodes_under at height (pairs_of_level (named_by at nodes)))
under-next P at height nodes all =
    let pairs = pairs_of_level nodes in
    subst (AllByRecursion P) (sym (ap (nodes_under at height) (pairs-named at nodes)
    ∙ nodes-flat_map at height (λ (p : Pair). pairs_on at p.page) pairs))
    (all-flatten P (λ (p : Pair). nodes_under at height (pairs_on at p.page)) pairs (seconds pairs (under-each P at height pairs all)))
  where
    seconds : (pairs : List Pair) → AllByRecursion (λ p. P p.page × AllByRecursion P (nodes_under at height (pairs_on at p.page))) pairs →
        AllByRecursion (λ p. AllByRecursion P (nodes_under at height (pairs_on at p.page))) pairs
    seconds [] all = tt
    seconds (p ∷ ps) all = (all.0.1, seconds ps all.1)

node-stays : (at now : Pages) (page : ℕ) → Stays at now page → node_on now page ≡ node_on at page
node-stays at now page same = ap (λ (b : List ℕ). record { page = page; pairs = (node_in b).pairs }) same

-- the nodes that pairs name
named-stay : (at now : Pages) (height : ℕ) (pairs : List Pair) → AllByRecursion (Stays at now) (nodes_under at (suc height) pairs) →
    map (λ (p : Pair). node_on now p.page) pairs ≡ map (λ (p : Pair). node_on at p.page) pairs
named-stay at now height pairs all = go pairs (under-each (Stays at now) at height pairs all)
  where
    go : (pairs : List Pair) → AllByRecursion (λ p. Stays at now p.page
        × AllByRecursion (Stays at now) (nodes_under at height (pairs_on at p.page))) pairs →
        map (λ (p : Pair). node_on now p.page) pairs ≡ map (λ (p : Pair). node_on at p.page) pairs
    go [] each = refl
    go (p ∷ ps) each = ap (λ x. x ∷ map (λ (p : Pair). node_on now p.page) ps) (node-stays at now p.page each.0.0)
        ∙ ap (λ xs. node_on at p.page ∷ xs) (go ps each.1)

-- the levels down
pub down-stay : (at now : Pages) (height : ℕ) (nodes : List PageNode) →
    AllByRecursion (Stays at now) (nodes_under at height (pairs_of_level nodes)) →
    levels_down now (suc height) nodes ≡ levels_down at (suc height) nodes
down-stay at now zero nodes all = refl
down-stay at now (suc height) nodes all =
    ap (λ (below : List PageNode). levels_down now (suc height) below ++ nodes ∷ []) (named-stay at now height (pairs_of_level nodes) all)
    ∙ ap (λ (levels : List (List PageNode)). levels ++ nodes ∷ [])
    (down-stay at now height (named_by at nodes) (under-next (Stays at now) at height nodes all))

-- the levels of the tree at a root
pub levels-stay : (at now : Pages) (height page : ℕ) → AllByRecursion (Stays at now) (nodes_of at height page) →
    levels_down now height (node_on now page ∷ []) ≡ levels_down at height (node_on at page ∷ [])
levels-stay at now zero page all = refl
levels-stay at now (suc height) page all =
    ap (λ (node : PageNode). levels_down now (suc height) (node ∷ [])) (node-stays at now page all.0)
    ∙ down-stay at now height (node_on at page ∷ [])
    (subst (λ ps. AllByRecursion (Stays at now) (nodes_under at height ps)) (sym (append-nil (pairs_on at page))) all.1)

pairs-stay : (at now : Pages) (page : ℕ) → Stays at now page → pairs_on now page ≡ pairs_on at page
pairs-stay at now page same = ap (λ (b : List ℕ). (node_in b).pairs) same

-- the nodes under pairs
pub nodes-stay : (at now : Pages) (height : ℕ) (pairs : List Pair) → AllByRecursion (Stays at now) (nodes_under at height pairs) →
    nodes_under now height pairs ≡ nodes_under at height pairs
nodes-stay at now zero pairs all = refl
nodes-stay at now (suc height) pairs all = go (nodes-stay at now height) pairs (under-each (Stays at now) at height pairs all)
  where
    go : ((pairs : List Pair) → AllByRecursion (Stays at now) (nodes_under at height pairs) →
        nodes_under now height pairs ≡ nodes_under at height pairs) →
        (pairs : List Pair) → AllByRecursion (λ p. Stays at now p.page
        × AllByRecursion (Stays at now) (nodes_under at height (pairs_on at p.page))) pairs →
        nodes_under now (suc height) pairs ≡ nodes_under at (suc height) pairs
    go below [] each = refl
    go below (p ∷ ps) each =
        let here : nodes_under now height (pairs_on now p.page) ≡ nodes_under at height (pairs_on at p.page) =
        ap (nodes_under now height) (pairs-stay at now p.page each.0.0) ∙ below (pairs_on at p.page) each.0.1 in
        ap (λ (xs : List ℕ). (p.page ∷ xs) ++ nodes_under now (suc height) ps) here
        ∙ ap (λ (xs : List ℕ). (p.page ∷ nodes_under at height (pairs_on at p.page)) ++ xs) (go below ps each.1)

pub tree_nodes-stay : (at now : Pages) (height page : ℕ) → AllByRecursion (Stays at now) (nodes_of at height page) →
    nodes_of now height page ≡ nodes_of at height page
tree_nodes-stay at now zero page all = refl
tree_nodes-stay at now (suc height) page all =
    ap (λ (xs : List ℕ). page ∷ xs) (ap (nodes_under now height) (pairs-stay at now page all.0)
    ∙ nodes-stay at now height (pairs_on at page) all.1)

-- the entries under pairs
pub entries-stay : (at now : Pages) (height : ℕ) (pairs : List Pair) → AllByRecursion (Stays at now) (nodes_under at height pairs) →
    entries_under now height pairs ≡ entries_under at height pairs
entries-stay at now zero pairs all = refl
entries-stay at now (suc height) pairs all = go (entries-stay at now height) pairs (under-each (Stays at now) at height pairs all)
  where
    go : ((pairs : List Pair) → AllByRecursion (Stays at now) (nodes_under at height pairs) →
        entries_under now height pairs ≡ entries_under at height pairs) →
        (pairs : List Pair) → AllByRecursion (λ p. Stays at now p.page
        × AllByRecursion (Stays at now) (nodes_under at height (pairs_on at p.page))) pairs →
        entries_under now (suc height) pairs ≡ entries_under at (suc height) pairs
    go below [] each = refl
    go below (p ∷ ps) each =
        let here : entries_under now height (pairs_on now p.page) ≡ entries_under at height (pairs_on at p.page) =
        ap (entries_under now height) (pairs-stay at now p.page each.0.0) ∙ below (pairs_on at p.page) each.0.1 in
        ap (λ (xs : List Pair). xs ++ entries_under now (suc height) ps) here
        ∙ ap (λ (xs : List Pair). entries_under at height (pairs_on at p.page) ++ xs) (go below ps each.1)

pub tree_entries-stay : (at now : Pages) (height page : ℕ) →
    AllByRecursion (Stays at now) (nodes_of at height page) → entries_of now height page ≡ entries_of at height page
tree_entries-stay at now zero page all = refl
tree_entries-stay at now (suc height) page all =
    ap (entries_under now height) (pairs-stay at now page all.0) ∙ entries-stay at now height (pairs_on at page) all.1

-- a node
node-has : (at now : Pages) (page level least bytes : ℕ) → Stays at now page → HasNode at page level least bytes →
    HasNode now page level least bytes
node-has at now page level least bytes same has = record {
  held = subst HoldsNode (sym same) has.held;
  is_level = ap (λ (b : List ℕ). (node_in b).level) same ∙ has.is_level;
  filled = subst (λ (ps : List Pair). least ≤ length ps) (sym (pairs-stay at now page same)) has.filled;
  counted = ap bytes_of (pairs-stay at now page same) ∙ has.counted;
}

-- trees under pairs
pub trees-stay : (at now : Pages) (half height : ℕ) (pairs : List Pair) → AllByRecursion (Stays at now) (nodes_under at height pairs) →
    AreTrees at half height pairs → AreTrees now half height pairs
trees-stay at now half zero pairs all trees = tt
trees-stay at now half (suc height) pairs all trees =
    go (trees-stay at now half height) pairs (under-each (Stays at now) at height pairs all) trees
  where
    go : ((pairs : List Pair) → AllByRecursion (Stays at now) (nodes_under at height pairs) →
        AreTrees at half height pairs → AreTrees now half height pairs) →
        (pairs : List Pair) → AllByRecursion (λ p. Stays at now p.page
        × AllByRecursion (Stays at now) (nodes_under at height (pairs_on at p.page))) pairs →
        AreTrees at half (suc height) pairs → AreTrees now half (suc height) pairs
    go below [] each trees = tt
    go below (p ∷ ps) each trees =
        let under = below (pairs_on at p.page) each.0.1 trees.0.1 in (
          (
            node-has at now p.page (suc height) half p.bytes each.0.0 trees.0.0,
            subst (AreTrees now half height) (sym (pairs-stay at now p.page each.0.0)) under,
          ),
          go below ps each.1 trees.1,
        )

pub tree-stays : (at now : Pages) (half height page bytes : ℕ) → AllByRecursion (Stays at now) (nodes_of at height page) →
    IsTree at half height page bytes → IsTree now half height page bytes
tree-stays at now half zero page bytes all tree = tree
tree-stays at now half (suc height) page bytes all tree = (
  node-has at now page (suc height) (root_least (suc height)) bytes all.0 tree.0,
  subst (AreTrees now half height) (sym (pairs-stay at now page all.0)) (trees-stay at now half height (pairs_on at page) all.1 tree.1),
)

-- the bytes of a run
run-stays : (at now : Pages) (first count : ℕ) → ((page : ℕ) → first ≤ page → page < first + count → Stays at now page) →
    run_bytes now first count ≡ run_bytes at first count
run-stays at now first zero same = refl
run-stays at now first (suc count) same =
    let low : first ≤ first = omega arith in
    let high : first < first + suc count = omega arith in
    ap (λ (page : List ℕ). page ++ run_bytes now (first + 1) count) (same first low high)
    ∙ ap (λ (rest : List ℕ). at first ++ rest)
    (run-stays at now (first + 1) count (λ page from to. same page (omega (arith, from)) (omega (arith, to))))

covers-inside : (page first count : ℕ) → first ≤ page → page < first + count → covers page (record { page = first; pages = count }) ≡ 1
covers-inside page first count from to = grind (arith, nat_tests)

-- the bytes of segments
pub content-stays : (at now : Pages) (size : ℕ) (entries : List Pair) →
    ((page : ℕ) → 0 < uses page (map (segment_run size) entries) → Stays at now page) →
    content now size entries ≡ content at size entries
content-stays at now size [] same = refl
content-stays at now size (p ∷ ps) same =
    let count = page_count size p.bytes in
    let run = run-stays at now p.page count (λ page from to.
    let all = sum_by-cons (covers page) (segment_run size p) (map (segment_run size) ps) in
    let here = covers-inside page p.page count from to in
    same page (omega (arith, all, here))) in
    let rest = content-stays at now size ps (λ page used.
    let all = sum_by-cons (covers page) (segment_run size p) (map (segment_run size) ps) in
    same page (omega (arith, all, used))) in
    ap (λ (bytes : List ℕ). take p.bytes bytes ++ content now size ps) run ∙ ap (λ (bytes : List ℕ). segment_bytes at size p ++ bytes) rest
