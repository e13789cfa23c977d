-- Each new level names the new level below it.
use Rattle.std.proofs.Common.{◌≡◌, ℕ, zero, suc, ◌+◌, ◌-◌, ◌/◌, ◌<◌, ◌≤◌, Bool, true, false, ◌&&◌, cond, List, []}
use Rattle.std.proofs.Common.{◌∷◌, ◌++◌, refl, sym, ap, subst, arith, ◌∙◌, ◌⊎◌, inl, inr, length, take, drop, map}
use Rattle.std.proofs.Common.{nat_eq, nat_lt}
use Rattle.std.proofs.lemmas.Bool.{ltb-true, ltb-false}
use Rattle.std.proofs.lemmas.Bool.Decides.{nat_tests}
use Rattle.std.proofs.lemmas.List.{append-nil, length-map, take-map, drop-map, map-append}
use Rattle.tree_model.specs.declared.entry.Pair.{Pair}
use Rattle.layout_model.specs.Levels.{PageNode, NewLevel, Site, pair_of, pairs_of_level, node_at, touched_site}
use Rattle.layout_model.specs.Levels.{exchanged, joins, joined, site_of, sizes_of, cut_into, on_pages, level_with}
use Rattle.layout_model.specs.Levels.{level_after, raised_levels, new_levels_from, spliced, is_top, nodes_of_levels}
use Rattle.layout_model.specs.Levels.{unless_empty, entries_of_levels}
use Rattle.layout_laws.specs.Naming.{AreNamed, HavePairs}
use Rattle.layout_laws.proofs.LevelLemmas.{test_cases, count-cons, level-spliced, raised_levels-head, new_levels_from-head}

-- the node that has a pair is a node of the level
pub node_at-within : (nodes : List PageNode) (at : ℕ) → at < length (pairs_of_level nodes) → node_at nodes at < length nodes
node_at-within [] at inside = let none : at < 0 = inside in absurd (omega arith)
node_at-within (node ∷ rest) at inside =
    elim (test_cases (nat_lt at (length node.pairs))) [
      | inl here ↦
          let step : node_at (node ∷ rest) at ≡ 0 = rw (here, node_at) in
          let some : 0 < suc (length rest) = omega arith in
          subst (λ (k : ℕ). k < suc (length rest)) (sym step) some
      | inr past ↦
          let inner = node_at rest (at - length node.pairs) in
          let step : node_at (node ∷ rest) at ≡ suc inner = rw (past, node_at) in
          let within = ltb-false at (length node.pairs) past in
          let all = count-cons node rest in
          let left : at - length node.pairs < length (pairs_of_level rest) = omega (arith, inside, all, within) in
          let more = node_at-within rest (at - length node.pairs) left in
          let some : suc inner < suc (length rest) = omega (arith, more) in
          subst (λ (k : ℕ). k < suc (length rest)) (sym step) some
    ]

-- the first touched node has a pair of the level
choice-inside : (from count size : ℕ) → 0 < size → from + count ≤ size → cond (nat_eq count 0) (from - 1) from < size
choice-inside from count size some within = grind (arith, nat_tests)

-- the touched nodes are nodes of the level
pub touched_site-within : (nodes : List PageNode) (from count : ℕ) → 0 < length (pairs_of_level nodes) →
    from + count ≤ length (pairs_of_level nodes) →
    (touched_site nodes from count).before + (touched_site nodes from count).nodes ≤ length nodes
touched_site-within nodes from count some within =
    let at = cond (nat_eq count 0) (from - 1) from in
    let first_inside : at < length (pairs_of_level nodes) = choice-inside from count (length (pairs_of_level nodes)) some within in
    let last_inside : from + count - 1 < length (pairs_of_level nodes) = omega (arith, some, within) in
    let first = node_at-within nodes at first_inside in
    let last = node_at-within nodes (from + count - 1) last_inside in
    let both : node_at nodes at + (suc (node_at nodes (from + count - 1)) - node_at nodes at) ≤ length nodes = omega (arith, first, last) in
    both

pub joined-within : (nodes : List PageNode) (site : Site) → site.before + site.nodes ≤ length nodes → site.nodes < length nodes →
    (joined nodes site).before + (joined nodes site).nodes ≤ length nodes
joined-within nodes site within left =
    let P : Site → Type 0 = λ s. s.before + s.nodes ≤ length nodes in
    elim (test_cases (nat_lt 0 site.before)) [
      | inl some ↦
          let step : joined nodes site ≡ record { before = site.before - 1; nodes = site.nodes + 1 } = rw (some, joined) in
          let positive = ltb-true 0 site.before some in
          let fits : site.before - 1 + (site.nodes + 1) ≤ length nodes = omega (arith, positive, within) in
          subst P (sym step) fits
      | inr none ↦
          let step : joined nodes site ≡ record { before = 0; nodes = site.nodes + 1 } = rw (none, joined) in
          let fits : 0 + (site.nodes + 1) ≤ length nodes = omega (arith, left) in
          subst P (sym step) fits
    ]

pub last_test : (a b c : Bool) → (a && (b && c)) ≡ true → c ≡ true
last_test true true c all = all
last_test true false c all = cc
last_test false b c all = cc

-- the nodes that are made anew are nodes of the level
pub site_of-within : (f : ℕ) (nodes : List PageNode) (from count : ℕ) (fresh : List Pair) →
    0 < length (pairs_of_level nodes) → from + count ≤ length (pairs_of_level nodes) →
    (site_of f nodes from count fresh).before + (site_of f nodes from count fresh).nodes ≤ length nodes
site_of-within f nodes from count fresh some within =
    let at = touched_site nodes from count in
    let near = touched_site-within nodes from count some within in
    let P : Site → Type 0 = λ s. s.before + s.nodes ≤ length nodes in
    elim (test_cases (joins f nodes at (length (exchanged nodes at from count fresh)))) [
      | inl join ↦
          let step : site_of f nodes from count fresh ≡ joined nodes at = rw (join, site_of) in
          let left = last_test (nat_lt 0 (length (exchanged nodes at from count fresh)))
          (nat_lt (length (exchanged nodes at from count fresh)) (f / 2)) (nat_lt at.nodes (length nodes)) join in
          subst P (sym step) (joined-within nodes at near (ltb-true at.nodes (length nodes) left))
      | inr alone ↦
          let step : site_of f nodes from count fresh ≡ at = rw (alone, site_of) in
          subst P (sym step) near
    ]

-- the names of a level with a site exchanged
pub names-with : (nodes : List PageNode) (site : Site) (made : List PageNode) →
    take site.before (map pair_of nodes) ++ (map pair_of made ++ drop (site.before + site.nodes) (map pair_of nodes))
    ≡ map pair_of (take site.before nodes ++ (made ++ drop (site.before + site.nodes) nodes))
names-with nodes site made =
    ap (λ (xs : List Pair). xs ++ (map pair_of made ++ drop (site.before + site.nodes) (map pair_of nodes)))
    (take-map pair_of site.before nodes)
    ∙ (ap (λ (xs : List Pair). map pair_of (take site.before nodes) ++ (map pair_of made ++ xs))
    (drop-map pair_of (site.before + site.nodes) nodes)
    ∙ (ap (λ (xs : List Pair). map pair_of (take site.before nodes) ++ xs)
    (sym (map-append pair_of made (drop (site.before + site.nodes) nodes)))
    ∙ sym (map-append pair_of (take site.before nodes) (made ++ drop (site.before + site.nodes) nodes))))

-- the level above a new one names its nodes
pub names-step : (f : ℕ) (nodes up : List PageNode) (site : Site) (made : List PageNode) (pages : List ℕ) → 0 < f →
    site.before + site.nodes ≤ length nodes → pairs_of_level up ≡ map pair_of nodes →
    pairs_of_level (level_after f up site.before site.nodes (map pair_of made) pages).nodes
    ≡ map pair_of (take site.before nodes ++ (made ++ drop (site.before + site.nodes) nodes))
names-step f nodes up site made pages some within named =
    let long : length (pairs_of_level up) ≡ length nodes = ap length named ∙ length-map nodes pair_of in
    let inside : site.before + site.nodes ≤ length (pairs_of_level up) = omega (arith, long, within) in
    let P : List Pair → Type 0 = λ xs. pairs_of_level (level_after f up site.before site.nodes (map pair_of made) pages).nodes
    ≡ take site.before xs ++ (map pair_of made ++ drop (site.before + site.nodes) xs) in
    subst P named (level-spliced f up site.before site.nodes (map pair_of made) pages some inside) ∙ names-with nodes site made

-- a raised level names those below it
raised_levels-named : (steps f : ℕ) (below : NewLevel) (pages : List ℕ) → 0 < f →
    AreNamed (map (λ (level : NewLevel). level.nodes) (raised_levels steps f below pages))
raised_levels-named zero f below pages some = tt
raised_levels-named (suc steps) f below pages some =
    let P : List NewLevel → Type 0 = λ levels. AreNamed (map (λ (level : NewLevel). level.nodes) levels) in
    elim (test_cases (is_top below)) [
      | inl top ↦
          let step : raised_levels (suc steps) f below pages ≡ below ∷ [] = rw (top, raised_levels) in
          subst P (sym step) tt
      | inr more ↦
          let left = drop (length below.made) pages in
          let next = level_after f [] 0 0 (map pair_of below.nodes) left in
          let step : raised_levels (suc steps) f below pages ≡ below ∷ raised_levels steps f next left = rw (more, raised_levels) in
          let head = raised_levels-head steps f next left in
          let whole : raised_levels (suc steps) f below pages ≡ below ∷ next ∷ head.0 = step
          ∙ ap (λ (xs : List NewLevel). below ∷ xs) head.1 in
          let named : pairs_of_level next.nodes ≡ map pair_of below.nodes =
          level-spliced f [] 0 0 (map pair_of below.nodes) left some (omega arith) ∙ append-nil (map pair_of below.nodes) in
          let above : AreNamed (next.nodes ∷ map (λ (level : NewLevel). level.nodes) head.0) =
          subst P head.1 (raised_levels-named steps f next left some) in
          subst P (sym whole) (named, above)
    ]

pub new_levels_from-top : (f : ℕ) (below : NewLevel) (up : List PageNode) (old : List (List PageNode))
    (pages : List ℕ) → is_top below ≡ true →
    new_levels_from f below (up ∷ old) pages ≡ below ∷ []
new_levels_from-top f below up old pages top = rw (top, new_levels_from)

pub new_levels_from-more : (f : ℕ) (below : NewLevel) (up : List PageNode) (old : List (List PageNode))
    (pages : List ℕ) → is_top below ≡ false →
    new_levels_from f below (up ∷ old) pages ≡ below ∷ new_levels_from f
    (level_after f up below.from below.count (map pair_of below.made) (drop (length below.made) pages)) old (drop (length below.made) pages)
new_levels_from-more f below up old pages more = rw (more, new_levels_from)

-- the levels from a new one on
from-named : (f : ℕ) (nodes : List PageNode) (site : Site) (made : List PageNode) (old : List (List PageNode)) (pages : List ℕ) → 0 < f →
    site.before + site.nodes ≤ length nodes → AreNamed (nodes ∷ old) → HavePairs old →
    AreNamed (map (λ (level : NewLevel). level.nodes) (new_levels_from f (level_with nodes site made) old pages))
from-named f nodes site made [] pages some within named pairs =
    raised_levels-named (length (level_with nodes site made).nodes) f (level_with nodes site made) pages some
from-named f nodes site made (up ∷ old) pages some within named pairs =
    let P : List NewLevel → Type 0 = λ levels. AreNamed (map (λ (level : NewLevel). level.nodes) levels) in
    let below = level_with nodes site made in
    elim (test_cases (is_top below)) [
      | inl top ↦
          let step : new_levels_from f below (up ∷ old) pages ≡ below ∷ [] = new_levels_from-top f below up old pages top in
          subst P (sym step) tt
      | inr more ↦
          let left = drop (length made) pages in
          let next = level_after f up site.before site.nodes (map pair_of made) left in
          let step : new_levels_from f below (up ∷ old) pages ≡ below ∷ new_levels_from f next old left =
          new_levels_from-more f below up old pages more in
          let head = new_levels_from-head f next old left in
          let whole : new_levels_from f below (up ∷ old) pages ≡ below ∷ next ∷ head.0 = step
          ∙ ap (λ (xs : List NewLevel). below ∷ xs) head.1 in
          let long : length (pairs_of_level up) ≡ length nodes = ap length named.0 ∙ length-map nodes pair_of in
          let inside : site.before + site.nodes ≤ length (pairs_of_level up) = omega (arith, long, within) in
          let next_site = site_of f up site.before site.nodes (map pair_of made) in
          let next_pairs = exchanged up next_site site.before site.nodes (map pair_of made) in
          let next_within = site_of-within f up site.before site.nodes (map pair_of made) pairs.0 inside in
          let above : AreNamed (map (λ (level : NewLevel). level.nodes) (new_levels_from f next old left)) =
          from-named f up next_site (on_pages left (cut_into (sizes_of f (length next_pairs)) next_pairs)) old left
          some next_within named.1 pairs.1 in
          let rest : AreNamed (next.nodes ∷ map (λ (level : NewLevel). level.nodes) head.0) = subst P head.1 above in
          subst P (sym whole) (names-step f nodes up site made left some within named.0, rest)
    ]

-- where no level is left nothing is named
unless-named : (levels : List NewLevel) → AreNamed (map (λ (level : NewLevel). level.nodes) levels) → AreNamed (nodes_of_levels levels)
unless-named [] named = tt
unless-named (below ∷ above) named =
    let P : List NewLevel → Type 0 = λ levels. AreNamed (map (λ (level : NewLevel). level.nodes) levels) in
    elim (test_cases (nat_eq (length below.nodes) 0)) [
      | inl none ↦
          let step : unless_empty (below ∷ above) ≡ [] = rw (none, unless_empty) in
          subst P (sym step) tt
      | inr some ↦
          let step : unless_empty (below ∷ above) ≡ below ∷ above = rw (some, unless_empty) in
          subst P (sym step) named
    ]

-- each new level names the new level below it
pub spliced-named : (f : ℕ) (levels : List (List PageNode)) (from count : ℕ) (fresh : List Pair) (pages : List ℕ) → 0 < f →
    AreNamed levels → HavePairs levels → from + count ≤ length (entries_of_levels levels) →
    AreNamed (nodes_of_levels (spliced f levels from count fresh pages))
unfolding spliced
spliced-named f [] from count fresh pages some named pairs within =
    let first = level_after f [] 0 0 fresh pages in
    unless-named (new_levels_from f first [] pages) (raised_levels-named (length first.nodes) f first pages some)
spliced-named f (nodes ∷ old) from count fresh pages some named pairs within =
    let site = site_of f nodes from count fresh in
    let all = exchanged nodes site from count fresh in
    let first = level_after f nodes from count fresh pages in
    unless-named (new_levels_from f first old pages)
    (from-named f nodes site (on_pages pages (cut_into (sizes_of f (length all)) all)) old pages some
    (site_of-within f nodes from count fresh pairs.0 within) named pairs.1)
