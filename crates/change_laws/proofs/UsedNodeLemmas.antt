-- The pages that are granted for nodes are used by the new tree.
use Rattle.std.proofs.Common.{◌≡◌, ℕ, zero, suc, ◌+◌, ◌≤◌, List, [], ◌∷◌, ◌++◌, length, map, take, drop, refl, sym}
use Rattle.std.proofs.Common.{ap, subst, arith, ◌∙◌, inl, inr, length-append, length-drop, nat_eq}
use Rattle.std.proofs.lemmas.Bool.{cases_Bool, eqb-true, le-leb}
use Rattle.std.proofs.lemmas.List.{drop_all}
use Rattle.tree_model.specs.declared.entry.Pair.{Pair}
use Rattle.layout_model.specs.Levels.{PageNode, NewLevel, pair_of, exchanged, site_of, sizes_of, cut_into, on_pages}
use Rattle.layout_model.specs.Levels.{level_after, raised_levels, new_levels_from, spliced, is_top, nodes_of_levels}
use Rattle.layout_model.specs.Levels.{unless_empty, count_made}
use Rattle.layout_laws.proofs.LevelLemmas.{raised_levels-head, new_levels_from-head}
use Rattle.layout_laws.proofs.NamingLemmas.{new_levels_from-top, new_levels_from-more}
use Rattle.moment_model.specs.Version.{uses}
use Rattle.moment_laws.specs.Granting.{page_run}
use Rattle.change_laws.proofs.ShapeLemmas.{level_nodes, raised_levels-top, raised_levels-more}
use Rattle.change_laws.proofs.NodeLemmas.{pages_uses, level_uses, levels_uses, level_uses-append, levels_uses-cons}
use Rattle.change_laws.proofs.NodeLemmas.{made-uses, parts-length}
use Rattle.change_laws.proofs.NodeCountLemmas.{made-cons}

-- ---- nodes

-- the made nodes of a level stand on the first pages
record Stands (page : ℕ) (below : NewLevel) (pages : List ℕ) : Type 0 where
  bound : pages_uses page pages ≤ level_uses page below.nodes + pages_uses page (drop (length below.made) pages)
  among : length below.made ≤ length below.nodes

after-stands : (page f : ℕ) (level : List PageNode) (from count : ℕ) (fresh : List Pair) (pages : List ℕ) →
    length (level_after f level from count fresh pages).made ≤ length pages → Stands page (level_after f level from count fresh pages) pages
after-stands page f level from count fresh pages enough =
    let site = site_of f level from count fresh in
    let J = exchanged level site from count fresh in
    let parts = cut_into (sizes_of f (length J)) J in
    let made = on_pages pages parts in
    let front = take site.before level in
    let back = drop (site.before + site.nodes) level in
    let count_is = parts-length f J pages in
    let new = made-uses page pages parts (omega (arith, count_is, enough)) in
    let left : uses page (map page_run (drop (length made) pages))
    ≡ uses page (map page_run (drop (length parts) pages)) =
    ap (λ (k : ℕ). uses page (map page_run (drop k pages))) count_is in
    let outer = level_uses-append page front (made ++ back) in
    let rest = level_uses-append page made back in
    let long = length-append front (made ++ back) in
    let long2 = length-append made back in
    record { bound = omega (arith, new, left, outer, rest); among = omega (arith, long, long2) }

alone-used : (page : ℕ) (below : NewLevel) (pages : List ℕ) → Stands page below pages → count_made (below ∷ []) ≡ length pages →
    pages_uses page pages ≤ levels_uses page (below.nodes ∷ [])
alone-used page below pages stands count =
    let one = made-cons below [] in
    let all : drop (length below.made) pages ≡ [] = drop_all (length below.made) pages (omega (arith, one, count)) in
    let none : pages_uses page (drop (length below.made) pages) ≡ 0 = ap (pages_uses page) all in
    let bound = stands.bound in
    let sum = levels_uses-cons page below.nodes [] in
    omega (arith, none, bound, sum)

raised_levels-used : (page steps f : ℕ) (below : NewLevel) (pages : List ℕ) → Stands page below pages →
    count_made (raised_levels steps f below pages) ≡ length pages →
    pages_uses page pages ≤ levels_uses page (level_nodes (raised_levels steps f below pages))
raised_levels-used page zero f below pages stands count = alone-used page below pages stands count
raised_levels-used page (suc steps) f below pages stands count =
    let P : List NewLevel → Type 0 = λ ls. pages_uses page pages ≤ levels_uses page (level_nodes ls) in
    elim (cases_Bool (is_top below)) [
      | inl top ↦
          let step = raised_levels-top steps f below pages top in
          subst P (sym step) (alone-used page below pages stands (sym (ap count_made step) ∙ count))
      | inr more ↦
          let left = drop (length below.made) pages in
          let next = level_after f [] 0 0 (map pair_of below.nodes) left in
          let step = raised_levels-more steps f below pages more in
          let sum = made-cons below (raised_levels steps f next left) in
          let counted : count_made (below ∷ raised_levels steps f next left) ≡ length pages = sym (ap count_made step) ∙ count in
          let long = length-drop (length below.made) pages in
          let fits : count_made (raised_levels steps f next left) ≡ length left = omega (arith, sum, counted, long) in
          let head = raised_levels-head steps f next left in
          let first : count_made (raised_levels steps f next left) ≡ count_made (next ∷ head.0) = ap count_made head.1 in
          let first_sum = made-cons next head.0 in
          let inner = raised_levels-used page steps f next left
          (after-stands page f [] 0 0 (map pair_of below.nodes) left (omega (arith, fits, first, first_sum)))
          fits in
          let bound = stands.bound in
          let all = levels_uses-cons page below.nodes (level_nodes (raised_levels steps f next left)) in
          subst P (sym step) (omega (arith, inner, bound, all))
    ]

from-used : (page f : ℕ) (below : NewLevel) (old : List (List PageNode)) (pages : List ℕ) →
    Stands page below pages → count_made (new_levels_from f below old pages) ≡ length pages →
    pages_uses page pages ≤ levels_uses page (level_nodes (new_levels_from f below old pages))
from-used page f below [] pages stands count = raised_levels-used page (length below.nodes) f below pages stands count
from-used page f below (up ∷ old) pages stands count =
    let P : List NewLevel → Type 0 = λ ls. pages_uses page pages ≤ levels_uses page (level_nodes ls) in
    elim (cases_Bool (is_top below)) [
      | inl top ↦
          let step = new_levels_from-top f below up old pages top in
          subst P (sym step) (alone-used page below pages stands (sym (ap count_made step) ∙ count))
      | inr more ↦
          let left = drop (length below.made) pages in
          let next = level_after f up below.from below.count (map pair_of below.made) left in
          let step = new_levels_from-more f below up old pages more in
          let sum = made-cons below (new_levels_from f next old left) in
          let counted : count_made (below ∷ new_levels_from f next old left) ≡ length pages = sym (ap count_made step) ∙ count in
          let long = length-drop (length below.made) pages in
          let fits : count_made (new_levels_from f next old left) ≡ length left = omega (arith, sum, counted, long) in
          let head = new_levels_from-head f next old left in
          let first : count_made (new_levels_from f next old left) ≡ count_made (next ∷ head.0) = ap count_made head.1 in
          let first_sum = made-cons next head.0 in
          let inner = from-used page f next old left
          (after-stands page f up below.from below.count (map pair_of below.made) left
          (omega (arith, fits, first, first_sum))) fits in
          let bound = stands.bound in
          let all = levels_uses-cons page below.nodes (level_nodes (new_levels_from f next old left)) in
          subst P (sym step) (omega (arith, inner, bound, all))
    ]

-- an empty lowest level has none above it
pub empty-alone : (f : ℕ) (below : NewLevel) (old : List (List PageNode)) (pages : List ℕ) → length below.nodes ≡ 0 →
    new_levels_from f below old pages ≡ below ∷ []
empty-alone f below [] pages none = ap (λ (k : ℕ). raised_levels k f below pages) none
empty-alone f below (up ∷ old) pages none = new_levels_from-top f below up old pages (le-leb (length below.nodes) 1 (omega (arith, none)))

levels-used : (page f : ℕ) (first : NewLevel) (old : List (List PageNode)) (pages : List ℕ) →
    Stands page first pages → count_made (new_levels_from f first old pages) ≡ length pages →
    pages_uses page pages ≤ levels_uses page (nodes_of_levels (new_levels_from f first old pages))
levels-used page f first old pages stands count =
    let head = new_levels_from-head f first old pages in
    let used = from-used page f first old pages stands count in
    let P : List NewLevel → Type 0 = λ ls. pages_uses page pages ≤ levels_uses page (nodes_of_levels ls) in
    elim (cases_Bool (nat_eq (length first.nodes) 0)) [
      | inr some ↦
          let step : unless_empty (first ∷ head.0) ≡ first ∷ head.0 = rw (some, unless_empty) in
          subst P (sym head.1) (subst (λ (ls : List NewLevel). pages_uses page pages ≤ levels_uses page (level_nodes ls)) (sym step)
          (subst (λ (ls : List NewLevel). pages_uses page pages ≤ levels_uses page (level_nodes ls)) head.1 used))
      | inl none ↦
          let no_node = eqb-true (length first.nodes) 0 none in
          let alone = empty-alone f first old pages no_node in
          let among = stands.among in
          let counted : count_made (first ∷ []) ≡ length pages = sym (ap count_made alone) ∙ count in
          let one = made-cons first [] in
          let no_page : length pages ≡ 0 = omega (arith, among, no_node, counted, one) in
          let nothing : pages_uses page pages ≡ 0 = go pages no_page in
          omega (arith, nothing)
    ]
  where
    go : (pages : List ℕ) → length pages ≡ 0 → pages_uses page pages ≡ 0
    go [] none = refl
    go (p ∷ ps) none = let some : suc (length ps) ≡ 0 = none in absurd (omega (arith, some))

-- the pages that were asked for are used by nodes
pub spliced-used : (page f : ℕ) (levels : List (List PageNode)) (from count : ℕ) (fresh : List Pair) (pages : List ℕ) →
    count_made (spliced f levels from count fresh pages) ≡ length pages →
    uses page (map page_run pages) ≤ levels_uses page (nodes_of_levels (spliced f levels from count fresh pages))
unfolding spliced
spliced-used page f [] from count fresh pages enough =
    let first = level_after f [] 0 0 fresh pages in
    let head = new_levels_from-head f first [] pages in
    let counted : count_made (new_levels_from f first [] pages) ≡ count_made (first ∷ head.0) = ap count_made head.1 in
    let sum = made-cons first head.0 in
    levels-used page f first [] pages (after-stands page f [] 0 0 fresh pages (omega (arith, enough, counted, sum))) enough
spliced-used page f (level ∷ old) from count fresh pages enough =
    let first = level_after f level from count fresh pages in
    let head = new_levels_from-head f first old pages in
    let counted : count_made (new_levels_from f first old pages) ≡ count_made (first ∷ head.0) = ap count_made head.1 in
    let sum = made-cons first head.0 in
    levels-used page f first old pages (after-stands page f level from count fresh pages (omega (arith, enough, counted, sum))) enough
