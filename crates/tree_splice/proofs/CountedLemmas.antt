-- Where the entries of the new tree have few enough bytes, each new node can be named.
use Rattle.std.proofs.Common.{
  ◌≡◌,
  ℕ,
  ◌+◌,
  ◌^◌,
  ◌<◌,
  ◌≤◌,
  List,
  [],
  ◌∷◌,
  ◌++◌,
  length,
  map,
  take,
  drop,
  nat_eq,
  refl,
  sym,
  ap,
  subst,
  arith,
  ◌∙◌,
  inl,
  inr,
}
use Rattle.std.specs.List.{AllByRecursion}
use Rattle.std.proofs.lemmas.Bool.{eqb-true}
use Rattle.std.proofs.lemmas.List.Sums.{sum_by-append}
use Rattle.change_laws.proofs.UsedNodeLemmas.{empty-alone}
use Rattle.tree_model.specs.declared.entry.Pair.{Pair}
use Rattle.tree_model.specs.Tree.{bytes_of}
use Rattle.layout_model.specs.Levels.{PageNode, NewLevel, pairs_of_level, entries_of_levels, new_levels_from, level_after, spliced, nodes_of_levels, unless_empty}
use Rattle.layout_laws.specs.Naming.{AreNamed, HavePairs}
use Rattle.layout_laws.proofs.LevelLemmas.{test_cases, pairs-cons, new_levels_from-head, spliced-entries}
use Rattle.layout_laws.proofs.NamingLemmas.{spliced-named}
use Rattle.local_laws.specs.Cut.{Cut, whole, number_in_run}
use Rattle.local_laws.specs.Path.{splice_path, shown, widened_path, IsWay}
use Rattle.local_laws.proofs.PathLemmas.{path-local}
use Rattle.tree_pages.proofs.UpLemmas.{bytes-named}
use Rattle.tree_splice.specs.Remade.{AreCounted, AreAllCounted}
use Rattle.tree_splice.proofs.UpLemmas.{all-parts}

bytes-cons : (node : PageNode) (rest : List PageNode) → bytes_of (pairs_of_level (node ∷ rest)) ≡ bytes_of node.pairs + bytes_of
    (pairs_of_level rest)
bytes-cons node rest = ap bytes_of (pairs-cons node rest) ∙ sum_by-append (λ (p : Pair). p.bytes) node.pairs (pairs_of_level rest)

-- a node has no more bytes than its level
pub nodes-counted : (nodes : List PageNode) → bytes_of (pairs_of_level nodes) < 2 ^ 64 → AreCounted nodes
nodes-counted [] small = tt
nodes-counted (node ∷ rest) small =
    let sum = bytes-cons node rest in
    (omega (arith, small, sum), nodes-counted rest (omega (arith, small, sum)))

-- all levels have the same bytes
pub named-counted : (levels : List (List PageNode)) → AreNamed levels → bytes_of (entries_of_levels levels) < 2 ^ 64 → AllByRecursion
    AreCounted levels
named-counted [] named small = tt
named-counted (nodes ∷ []) named small = (nodes-counted nodes small, tt)
named-counted (nodes ∷ up ∷ above) named small =
    let same = ap bytes_of named.0 ∙ bytes-named nodes in
    (nodes-counted nodes small, named-counted (up ∷ above) named.1 (omega (arith, small, same)))

of-map : (levels : List NewLevel) → AllByRecursion AreCounted (map (λ (level : NewLevel). level.nodes) levels) → AreAllCounted levels
of-map [] all = tt
of-map (level ∷ levels) all = (all.0, of-map levels all.1)

none-counted : (nodes : List PageNode) → length nodes ≡ 0 → AreCounted nodes
none-counted [] none = tt
none-counted (node ∷ nodes) none = absurd (omega (arith, none))

from-counted : (f : ℕ) (first : NewLevel) (old : List (List PageNode)) (pages : List ℕ) →
    AllByRecursion AreCounted (nodes_of_levels (new_levels_from f first old pages)) → AreAllCounted (new_levels_from f first old pages)
from-counted f first old pages all =
    let head = new_levels_from-head f first old pages in
    elim (test_cases (nat_eq (length first.nodes) 0)) [
      | inl none ↦
          let no_node = eqb-true (length first.nodes) 0 none in
          subst AreAllCounted (sym (empty-alone f first old pages no_node)) (none-counted first.nodes no_node, tt)
      | inr some ↦
          let step : unless_empty (first ∷ head.0) ≡ first ∷ head.0 = rw (some, unless_empty) refl in
          let here : AllByRecursion AreCounted (map (λ (level : NewLevel). level.nodes) (unless_empty (first ∷ head.0))) =
          subst (λ (ls : List NewLevel). AllByRecursion AreCounted (nodes_of_levels ls)) head.1 all in
          let same : AllByRecursion AreCounted (map (λ (level : NewLevel). level.nodes) (first ∷ head.0)) =
          subst (λ (ls : List NewLevel). AllByRecursion AreCounted (map (λ (level : NewLevel). level.nodes) ls)) step here in
          subst AreAllCounted (sym head.1) (of-map (first ∷ head.0) same)
    ]

-- the new levels of a tree
pub spliced-counted : (f : ℕ) (levels : List (List PageNode)) (from count : ℕ) (fresh : List Pair) (pages : List ℕ) → 0 < f →
    AreNamed levels → HavePairs levels → from + count ≤ length (entries_of_levels levels) →
    bytes_of (take from (entries_of_levels levels) ++ (fresh ++ drop (from + count) (entries_of_levels levels))) < 2 ^ 64 →
    AreAllCounted (spliced f levels from count fresh pages)
unfolding spliced
spliced-counted f [] from count fresh pages some named pairs within small =
    let first = level_after f [] 0 0 fresh pages in
    let entries = ap bytes_of (spliced-entries f [] from count fresh pages some within) in
    from-counted f first [] pages (named-counted (nodes_of_levels (spliced f [] from count fresh pages))
    (spliced-named f [] from count fresh pages some named pairs within)
    (omega (arith, small, entries)))
spliced-counted f (nodes ∷ old) from count fresh pages some named pairs within small =
    let first = level_after f nodes from count fresh pages in
    let entries = ap bytes_of (spliced-entries f (nodes ∷ old) from count fresh pages some within) in
    from-counted f first old pages (named-counted (nodes_of_levels (spliced f (nodes ∷ old) from count fresh pages))
    (spliced-named f (nodes ∷ old) from count fresh pages some named pairs within)
    (omega (arith, small, entries)))

-- the nodes of the runs are among those of the levels
pub narrowed-counted : (cuts : List Cut) (new : List NewLevel) → AreAllCounted (widened_path cuts new) → AreAllCounted new
narrowed-counted [] new all = all
narrowed-counted (cut ∷ cuts) [] all = tt
narrowed-counted (cut ∷ cuts) (level ∷ new) all =
    let behind = all-parts (λ (node : PageNode). bytes_of node.pairs < 2 ^ 64) cut.front (level.nodes ++ cut.back) all.0 in
    ((all-parts (λ (node : PageNode). bytes_of node.pairs < 2 ^ 64) level.nodes cut.back behind.1).0, narrowed-counted cuts new all.1)

-- and so are those of the way
pub path-counted : (f : ℕ) (cut : Cut) (above : List Cut) (from count : ℕ) (fresh : List Pair) (pages : List ℕ) → 0 < f →
    IsWay f cut above from count fresh → AreNamed (map whole (cut ∷ above)) → HavePairs (map whole (cut ∷ above)) →
    from + count ≤ length (entries_of_levels (map whole (cut ∷ above))) →
    bytes_of (take from (entries_of_levels (map whole (cut ∷ above))) ++
    (fresh ++ drop (from + count) (entries_of_levels (map whole (cut ∷ above))))) < 2 ^ 64 →
    AreAllCounted (splice_path f (shown (cut ∷ above)) (number_in_run cut from) count fresh pages)
path-counted f cut above from count fresh pages some way named pairs within small =
    narrowed-counted (cut ∷ above) (splice_path f (shown (cut ∷ above)) (number_in_run cut from) count fresh pages)
    (subst AreAllCounted (path-local f cut above from count fresh pages some way)
    (spliced-counted f (map whole (cut ∷ above)) from count fresh pages some named pairs within small))
