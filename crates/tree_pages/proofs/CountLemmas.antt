-- How often the nodes of a tree on pages use a page, and what holds of a page that is used.
use Rattle.std.proofs.Common.{◌≡◌, ℕ, zero, suc, ◌+◌, ◌<◌, Bool, true, cond, List, [], ◌∷◌, ◌++◌, map, refl, ap, arith, ◌∙◌, nat_eq}
use Rattle.std.specs.Prelude.{count_by}
use Rattle.std.specs.List.{AllByRecursion, flat_map}
use Rattle.std.proofs.lemmas.Bool.Decides.{nat_tests}
use Rattle.std.proofs.lemmas.List.{append-nil}
use Rattle.std.proofs.lemmas.List.Sums.{sum_by-cons, sum_by-append}
use Rattle.tree_model.specs.declared.entry.Pair.{Pair}
use Rattle.tree_model.specs.declared.tree.Root.{Root}
use Rattle.tree_model.specs.Tree.{Pages, pairs_on, nodes_under, nodes_of}
use Rattle.layout_model.specs.declared.extent.Extent.{Extent}
use Rattle.layout_model.specs.Levels.{PageNode, pairs_of_level}
use Rattle.moment_model.specs.Version.{covers, uses, node_run}
use Rattle.tree_pages.specs.Levels.{node_on, named_by, levels_down, levels_at}
use Rattle.tree_pages.proofs.UnderLemmas.{nodes-flat_map}
use Rattle.tree_pages.proofs.DownLemmas.{pairs-named, down-step}

-- how often a page stands in a list of pages
abbrev pub times : ℕ → List ℕ → ℕ
times page pages = count_by (nat_eq page) pages

pub times-cons : (page first : ℕ) (pages : List ℕ) → times page (first ∷ pages) ≡ cond (nat_eq page first) 1 0 + times page pages
times-cons page first pages = sum_by-cons (λ (x : ℕ). cond (nat_eq page x) 1 0) first pages

pub times-append : (page : ℕ) (xs ys : List ℕ) → times page (xs ++ ys) ≡ times page xs + times page ys
times-append page xs ys = sum_by-append (λ (x : ℕ). cond (nat_eq page x) 1 0) xs ys

uses-append : (page : ℕ) (xs ys : List Extent) → uses page (xs ++ ys) ≡ uses page xs + uses page ys
uses-append page xs ys = sum_by-append (covers page) xs ys

-- a run of one page has that page
covers-one : (page first : ℕ) → covers page (record { page = first; pages = 1 }) ≡ cond (nat_eq page first) 1 0
covers-one page first = grind (arith, nat_tests)

-- nodes use the pages that they stand on
uses-nodes : (page : ℕ) (nodes : List PageNode) → uses page (map node_run nodes) ≡ times page (map (λ node. node.page) nodes)
uses-nodes page [] = refl
uses-nodes page (node ∷ rest) =
    let runs = sum_by-cons (covers page) (node_run node) (map node_run rest) in
    let pages = times-cons page node.page (map (λ (x : PageNode). x.page) rest) in
    let here = covers-one page node.page in
    let more = uses-nodes page rest in
    omega (arith, runs, pages, here, more)

-- items and what follows each, counted apart
times-both : (page : ℕ) (g : Pair → ℕ) (k : Pair → List ℕ) (ps : List Pair) →
    times page (flat_map (λ p. g p ∷ k p) ps) ≡ times page (map g ps) + times page (flat_map k ps)
times-both page g k [] = refl
times-both page g k (p ∷ ps) =
    let a = times-append page (g p ∷ k p) (flat_map (λ (x : Pair). g x ∷ k x) ps) in
    let b = times-cons page (g p) (k p) in
    let c = times-cons page (g p) (map g ps) in
    let d = times-append page (k p) (flat_map k ps) in
    let more = times-both page g k ps in
    omega (arith, a, b, c, d, more)

pages-named : (at : Pages) (pairs : List Pair) →
    map (λ node. node.page) (map (λ (p : Pair). node_on at p.page) pairs) ≡ map (λ p. p.page) pairs
pages-named at [] = refl
pages-named at (p ∷ ps) = ap (λ xs. p.page ∷ xs) (pages-named at ps)

-- the levels down use the pages of their first nodes and of those under them
down-uses : (page : ℕ) (at : Pages) (height : ℕ) (nodes : List PageNode) (above : List (List PageNode)) →
    uses page (flat_map (map node_run) (levels_down at (suc height) nodes ++ above))
    ≡ times page (map (λ node. node.page) nodes) + times page (nodes_under at height (pairs_of_level nodes)) + uses
    page (flat_map (map node_run) above)
down-uses page at zero nodes above =
    let both = uses-append page (map node_run nodes) (flat_map (map node_run) above) in
    let first = uses-nodes page nodes in
    omega (arith, both, first)
down-uses page at (suc height) nodes above =
    let pairs = pairs_of_level nodes in
    let step = ap (λ (levels : List (List PageNode)). uses page (flat_map (map node_run) levels)) (down-step at (suc height) nodes above) in
    let rest = down-uses page at height (named_by at nodes) (nodes ∷ above) in
    let names = ap (times page) (pages-named at pairs) in
    let under = ap (times page) (ap (nodes_under at height) (pairs-named at nodes)
    ∙ nodes-flat_map at height (λ (p : Pair). pairs_on at p.page) pairs) in
    let both = uses-append page (map node_run nodes) (flat_map (map node_run) above) in
    let first = uses-nodes page nodes in
    let parts = times-both page (λ (p : Pair). p.page) (λ (p : Pair). nodes_under at height (pairs_on at p.page)) pairs in
    omega (arith, step, rest, names, under, both, first, parts)

-- a page is used by the nodes as often as it stands among the pages of the tree's nodes
pub tree-uses : (page : ℕ) (at : Pages) (root : Root) →
    uses page (flat_map (map node_run) (levels_at at root)) ≡ times page (nodes_of at root.height root.page)
tree-uses page at root = go root.height
  where
    go : (height : ℕ) → uses page (flat_map (map node_run) (levels_down at height (node_on at root.page ∷ [])))
        ≡ times page (nodes_of at height root.page)
    go zero = refl
    go (suc height) =
        let all = ap (λ (levels : List (List PageNode)). uses page (flat_map (map node_run) levels))
        (append-nil (levels_down at (suc height) (node_on at root.page ∷ []))) in
        let whole = down-uses page at height (node_on at root.page ∷ []) [] in
        let pairs = ap (λ (ps : List Pair). times page (nodes_under at height ps)) (append-nil (pairs_on at root.page)) in
        let one = times-cons page root.page [] in
        let more = times-cons page root.page (nodes_under at height (pairs_on at root.page)) in
        omega (arith, all, whole, pairs, one, more)

-- what holds of each page that stands in a list, by count, holds along the list
pub all-counted : (P : ℕ → Type 0) (pages : List ℕ) → ((page : ℕ) → 0 < times page pages → P page) → AllByRecursion P pages
all-counted P [] holds = tt
all-counted P (first ∷ rest) holds =
    let same : nat_eq first first ≡ true = grind (arith, nat_tests) in
    let here = ap (λ (b : Bool). let n : ℕ = cond b 1 0 in n) same in
    let whole = times-cons first first rest in
    let some : 0 < times first (first ∷ rest) = omega (arith, here, whole) in
    (holds first some, all-counted P rest (λ page more. let all = times-cons page first rest in holds page (omega (arith, all, more))))
