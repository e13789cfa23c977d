-- The pages of the nodes of a changed tree: they stand on pages that were asked for, and the others on those that they
-- had.
use Rattle.std.proofs.Common.{◌≡◌, ℕ, zero, suc, ◌+◌, ◌≤◌, true, false, IsTrue, List, [], ◌∷◌, ◌++◌, length, map}
use Rattle.std.proofs.Common.{take, drop, refl, sym, ap, subst, arith, ◌∙◌, inl, inr, length-drop, nat_eq}
use Rattle.std.specs.List.{AllByRecursion, flat_map}
use Rattle.std.proofs.lemmas.Bool.{cases_Bool, false≢true}
use Rattle.std.proofs.lemmas.List.{take-append-drop, drop-drop, map-append}
use Rattle.std.proofs.lemmas.List.Sums.{sum_by-cons}
use Rattle.geometry_model.specs.Numbers.{Numbers}
use Rattle.geometry_model.specs.Pages.{is_data_page}
use Rattle.tree_model.specs.declared.entry.Pair.{Pair}
use Rattle.layout_model.specs.Levels.{PageNode, NewLevel, Site, pair_of, exchanged, site_of, sizes_of, cut_into}
use Rattle.layout_model.specs.Levels.{on_pages, level_with, level_after, raised_levels, new_levels_from, spliced}
use Rattle.layout_model.specs.Levels.{is_top, nodes_of_levels, unless_empty, count_made}
use Rattle.layout_laws.proofs.LevelLemmas.{raised_levels-head, new_levels_from-head}
use Rattle.layout_laws.proofs.NamingLemmas.{new_levels_from-top, new_levels_from-more}
use Rattle.moment_model.specs.Version.{covers, uses, node_run, StandOnData}
use Rattle.moment_laws.specs.Granting.{page_run}
use Rattle.moment_laws.proofs.GrantLemmas.{uses-append, covers-cases}
use Rattle.change_laws.proofs.ShapeLemmas.{level_nodes, raised_levels-top, raised_levels-more}
use Rattle.change_laws.proofs.NodeCountLemmas.{made-cons}

-- ---- which pages they use

-- how often the nodes of a level use a page
abbrev pub level_uses : ℕ → List PageNode → ℕ
level_uses page level = uses page (map node_run level)

-- and those of all levels
abbrev pub levels_uses : ℕ → List (List PageNode) → ℕ
levels_uses page levels = uses page (flat_map (map node_run) levels)

abbrev pub pages_uses : ℕ → List ℕ → ℕ
pages_uses page pages = uses page (map page_run pages)

pub level_uses-append : (page : ℕ) (xs ys : List PageNode) → level_uses page (xs ++ ys) ≡ level_uses page xs + level_uses page ys
level_uses-append page xs ys = ap (uses page) (map-append node_run xs ys) ∙ uses-append page (map node_run xs) (map node_run ys)

pub levels_uses-cons : (page : ℕ) (level : List PageNode) (levels : List (List PageNode)) →
    levels_uses page (level ∷ levels) ≡ level_uses page level + levels_uses page levels
levels_uses-cons page level levels = uses-append page (map node_run level) (flat_map (map node_run) levels)

-- made nodes stand on the first pages
pub made-uses : (page : ℕ) (pages : List ℕ) (parts : List (List Pair)) → length parts ≤ length pages →
    level_uses page (on_pages pages parts) + pages_uses page (drop (length parts) pages) ≡ pages_uses page pages
made-uses page pages [] fits = omega arith
made-uses page [] (part ∷ parts) fits = let some : suc (length parts) ≤ 0 = fits in absurd (omega (arith, some))
made-uses page (first ∷ pages) (part ∷ parts) fits =
    let less : suc (length parts) ≤ suc (length pages) = fits in
    let more = made-uses page pages parts (omega (arith, less)) in
    let one = sum_by-cons (covers page) (page_run first) (map node_run (on_pages pages parts)) in
    let two = sum_by-cons (covers page) (page_run first) (map page_run pages) in
    omega (arith, more, one, two)

pub parts-length : (f : ℕ) (J : List Pair) (pages : List ℕ) →
    length (on_pages pages (cut_into (sizes_of f (length J)) J)) ≡ length (cut_into (sizes_of f (length J)) J)
parts-length f J pages = go pages (cut_into (sizes_of f (length J)) J)
  where
    go : (pages : List ℕ) (parts : List (List Pair)) → length (on_pages pages parts) ≡ length parts
    go pages [] = refl
    go [] (part ∷ parts) = ap suc (go [] parts)
    go (page ∷ pages) (part ∷ parts) = ap suc (go pages parts)

-- a level keeps the nodes outside its site
with-uses : (page : ℕ) (level : List PageNode) (site : Site) (made : List PageNode) →
    level_uses page (level_with level site made).nodes ≤ level_uses page level + level_uses page made
with-uses page level site made =
    let front = take site.before level in
    let back = drop (site.before + site.nodes) level in
    let outer = level_uses-append page front (made ++ back) in
    let rest = level_uses-append page made back in
    let all = level_uses-append page front (drop site.before level) in
    let whole : level_uses page (front ++ drop site.before level) ≡ level_uses page level =
    ap (level_uses page) (take-append-drop site.before level) in
    let inner = level_uses-append page (take site.nodes (drop site.before level)) (drop site.nodes (drop site.before level)) in
    let split : level_uses page (take site.nodes (drop site.before level)
    ++ drop site.nodes (drop site.before level)) ≡ level_uses page (drop site.before level) =
    ap (level_uses page) (take-append-drop site.nodes (drop site.before level)) in
    let behind : level_uses page (drop site.nodes (drop site.before level)) ≡ level_uses page back =
    ap (level_uses page) (drop-drop site.nodes site.before level) in
    omega (arith, outer, rest, all, whole, inner, split, behind)

-- a level after an exchange, and the pages that are left
record OnPages (page : ℕ) (old : ℕ) (below : NewLevel) (pages : List ℕ) : Type 0 where
  bound : level_uses page below.nodes + pages_uses page (drop (length below.made) pages) ≤ old + pages_uses page pages

after-uses : (page f : ℕ) (level : List PageNode) (from count : ℕ) (fresh : List Pair) (pages : List ℕ) →
    length (level_after f level from count fresh pages).made ≤ length pages →
    OnPages page (level_uses page level) (level_after f level from count fresh pages) pages
after-uses page f level from count fresh pages enough =
    let site = site_of f level from count fresh in
    let J = exchanged level site from count fresh in
    let parts = cut_into (sizes_of f (length J)) J in
    let made = on_pages pages parts in
    let kept = with-uses page level site made in
    let count_is = parts-length f J pages in
    let new = made-uses page pages parts (omega (arith, count_is, enough)) in
    let left : uses page (map page_run (drop (length made) pages))
    ≡ uses page (map page_run (drop (length parts) pages)) =
    ap (λ (k : ℕ). uses page (map page_run (drop k pages))) count_is in
    record { bound = omega (arith, kept, new, left) }

raised_levels-uses : (page steps f : ℕ) (below : NewLevel) (pages : List ℕ) →
    count_made (raised_levels steps f below pages) ≤ length pages →
    levels_uses page (level_nodes (raised_levels steps f below pages)) ≤ level_uses page below.nodes + pages_uses
    page (drop (length below.made) pages)
raised_levels-uses page zero f below pages enough = let one = levels_uses-cons page below.nodes [] in omega (arith, one)
raised_levels-uses page (suc steps) f below pages enough =
    elim (cases_Bool (is_top below)) [
      | inl top ↦
          let one = levels_uses-cons page below.nodes [] in
          let same : levels_uses page (level_nodes (raised_levels (suc steps) f below pages))
          ≡ levels_uses page (below.nodes ∷ []) =
          ap (λ (ls : List NewLevel). levels_uses page (level_nodes ls))
          (raised_levels-top steps f below pages top) in
          omega (arith, one, same)
      | inr more ↦
          let left = drop (length below.made) pages in
          let next = level_after f [] 0 0 (map pair_of below.nodes) left in
          let step = raised_levels-more steps f below pages more in
          let same : levels_uses page (level_nodes (raised_levels (suc steps) f below pages))
          ≡ levels_uses page (below.nodes ∷ level_nodes (raised_levels steps f next left)) =
          ap (λ (ls : List NewLevel). levels_uses page (level_nodes ls)) step in
          let count = made-cons below (raised_levels steps f next left) in
          let counted : count_made (raised_levels (suc steps) f below pages)
          ≡ count_made (below ∷ raised_levels steps f next left) = ap count_made step in
          let left_long = length-drop (length below.made) pages in
          let fits : count_made (raised_levels steps f next left) ≤ length left = omega (arith, count, counted, left_long, enough) in
          let first = raised_levels-first steps f next left in
          let made_fits : length next.made ≤ length left = omega (arith, fits, first) in
          let here = (after-uses page f [] 0 0 (map pair_of below.nodes) left made_fits).bound in
          let inner = raised_levels-uses page steps f next left fits in
          let one = levels_uses-cons page below.nodes (level_nodes (raised_levels steps f next left)) in
          omega (arith, same, here, inner, one)
    ]
  where
    raised_levels-first : (steps f : ℕ) (below : NewLevel) (pages : List ℕ) →
        length below.made ≤ count_made (raised_levels steps f below pages)
    raised_levels-first steps f below pages =
        let head = raised_levels-head steps f below pages in
        let same : count_made (raised_levels steps f below pages) ≡ count_made (below ∷ head.0) = ap count_made head.1 in
        let count = made-cons below head.0 in
        omega (arith, same, count)

-- the first level's made nodes are among those that all make
from-first : (f : ℕ) (below : NewLevel) (old : List (List PageNode)) (pages : List ℕ) →
    length below.made ≤ count_made (new_levels_from f below old pages)
from-first f below old pages =
    let head = new_levels_from-head f below old pages in
    let same : count_made (new_levels_from f below old pages) ≡ count_made (below ∷ head.0) = ap count_made head.1 in
    let count = made-cons below head.0 in
    omega (arith, same, count)

from-uses : (page f : ℕ) (below : NewLevel) (old : List (List PageNode)) (pages : List ℕ) →
    count_made (new_levels_from f below old pages) ≤ length pages →
    levels_uses page (level_nodes (new_levels_from f below old pages)) ≤ level_uses page
    below.nodes + (levels_uses page old + pages_uses page (drop (length below.made) pages))
from-uses page f below [] pages enough =
    let all = raised_levels-uses page (length below.nodes) f below pages enough in
    goal all
  where
    goal : levels_uses page (level_nodes (raised_levels (length below.nodes) f below pages)) ≤ level_uses page
        below.nodes + pages_uses page (drop (length below.made) pages) →
        levels_uses page (level_nodes (raised_levels (length below.nodes) f below pages)) ≤ level_uses page
        below.nodes + (0 + uses page (map page_run (drop (length below.made) pages)))
    goal all = omega (arith, all)
from-uses page f below (up ∷ old) pages enough =
    let others = levels_uses-cons page up old in
    elim (cases_Bool (is_top below)) [
      | inl top ↦
          let one = levels_uses-cons page below.nodes [] in
          let same : levels_uses page (level_nodes (new_levels_from f below (up ∷ old) pages))
          ≡ levels_uses page (below.nodes ∷ []) =
          ap (λ (ls : List NewLevel). levels_uses page (level_nodes ls))
          (new_levels_from-top f below up old pages top) in
          omega (arith, one, same)
      | inr more ↦
          let left = drop (length below.made) pages in
          let next = level_after f up below.from below.count (map pair_of below.made) left in
          let step = new_levels_from-more f below up old pages more in
          let same : levels_uses page (level_nodes (new_levels_from f below (up ∷ old) pages))
          ≡ levels_uses page (below.nodes ∷ level_nodes (new_levels_from f next old left)) =
          ap (λ (ls : List NewLevel). levels_uses page (level_nodes ls)) step in
          let count = made-cons below (new_levels_from f next old left) in
          let counted : count_made (new_levels_from f below (up ∷ old) pages)
          ≡ count_made (below ∷ new_levels_from f next old left) = ap count_made step in
          let left_long = length-drop (length below.made) pages in
          let fits : count_made (new_levels_from f next old left) ≤ length left = omega (arith, count, counted, left_long, enough) in
          let first = from-first f next old left in
          let made_fits : length next.made ≤ length left = omega (arith, fits, first) in
          let here = (after-uses page f up below.from below.count (map pair_of below.made) left made_fits).bound in
          let inner = from-uses page f next old left fits in
          let one = levels_uses-cons page below.nodes (level_nodes (new_levels_from f next old left)) in
          omega (arith, same, here, inner, one, others)
    ]

-- without an empty lowest level no more pages are used
unless-uses : (page : ℕ) (levels : List NewLevel) → levels_uses page (nodes_of_levels levels) ≤ levels_uses page (level_nodes levels)
unless-uses page [] = let none : 0 ≤ 0 = omega arith in none
unless-uses page (level ∷ above) =
    elim (cases_Bool (nat_eq (length level.nodes) 0)) [
      | inl none ↦
          let step : unless_empty (level ∷ above) ≡ [] = rw (none, unless_empty) in
          let same : levels_uses page (nodes_of_levels (level ∷ above)) ≡ 0 =
          ap (λ (ls : List NewLevel). levels_uses page (level_nodes ls)) step in
          omega (arith, same)
      | inr some ↦
          let step : unless_empty (level ∷ above) ≡ level ∷ above = rw (some, unless_empty) in
          let same : levels_uses page (nodes_of_levels (level ∷ above))
          ≡ levels_uses page (level_nodes (level ∷ above)) =
          ap (λ (ls : List NewLevel). levels_uses page (level_nodes ls)) step in
          omega (arith, same)
    ]

-- the nodes of a changed tree use the pages that were used, and those that were asked for, each once
pub spliced-uses : (page f : ℕ) (levels : List (List PageNode)) (from count : ℕ) (fresh : List Pair) (pages : List ℕ) →
    count_made (spliced f levels from count fresh pages) ≤ length pages →
    levels_uses page (nodes_of_levels (spliced f levels from count fresh pages)) ≤ levels_uses page levels + uses page (map page_run pages)
unfolding spliced
spliced-uses page f [] from count fresh pages enough =
    let first = level_after f [] 0 0 fresh pages in
    let head = from-first f first [] pages in
    let here = (after-uses page f [] 0 0 fresh pages (omega (arith, head, enough))).bound in
    let all = from-uses page f first [] pages enough in
    let less = unless-uses page (new_levels_from f first [] pages) in
    omega (arith, here, all, less)
spliced-uses page f (level ∷ old) from count fresh pages enough =
    let first = level_after f level from count fresh pages in
    let head = from-first f first old pages in
    let here = (after-uses page f level from count fresh pages (omega (arith, head, enough))).bound in
    let all = from-uses page f first old pages enough in
    let less = unless-uses page (new_levels_from f first old pages) in
    let one = levels_uses-cons page level old in
    omega (arith, here, all, less, one)

-- ---- data pages

-- a node on its page
covers-own : (node : PageNode) → covers node.page (node_run node) ≡ 1
covers-own node = elim (covers-cases node.page (node_run node)) [
  | inl covered ↦ covered.0
  | inr out ↦
      elim out.1 [
        | inl before ↦ absurd (omega (arith, before))
        | inr behind ↦ absurd (omega (arith, behind))
      ]
]

-- where nodes stand on data pages no other page is used
data-unused : (n : Numbers) (page : ℕ) (levels : List (List PageNode)) → StandOnData n levels →
    is_data_page n page ≡ false → levels_uses page levels ≡ 0
data-unused n page [] stand other = refl
data-unused n page (level ∷ levels) stand other =
    let here = go level stand.0 in
    let rest = data-unused n page levels stand.1 other in
    let one = levels_uses-cons page level levels in
    omega (arith, here, rest, one)
  where
    go : (level : List PageNode) → AllByRecursion (λ (node : PageNode). IsTrue (is_data_page n node.page)) level → level_uses page level ≡ 0
    go [] all = refl
    go (node ∷ rest) all =
        let more = go rest all.1 in
        let first = sum_by-cons (covers page) (node_run node) (map node_run rest) in
        elim (covers-cases page (node_run node)) [
          | inr out ↦ let none = out.0 in omega (arith, more, first, none)
          | inl covered ↦
              let low = covered.1 in
              let high = covered.2 in
              let same : node.page ≡ page = omega (arith, low, high) in
              absurd (false≢true (sym other ∙ subst (λ (k : ℕ). is_data_page n k ≡ true) same all.0))
        ]

-- and nodes that use no other page stand on data pages
data-stand : (n : Numbers) (levels : List (List PageNode)) →
    ((page : ℕ) → is_data_page n page ≡ false → levels_uses page levels ≡ 0) → StandOnData n levels
data-stand n [] none = tt
data-stand n (level ∷ levels) none = (
  go level (λ page other. let one = levels_uses-cons page level levels in let zero_all = none page other in omega (arith, one, zero_all)),
  data-stand n levels (λ page other. let one = levels_uses-cons page level levels in
      let zero_all = none page other in omega (arith, one, zero_all)),
)
  where
    go : (level : List PageNode) → ((page : ℕ) → is_data_page n page ≡ false → level_uses page level ≡ 0) →
        AllByRecursion (λ (node : PageNode). IsTrue (is_data_page n node.page)) level
    go [] none = tt
    go (node ∷ rest) none = (
      elim (cases_Bool (is_data_page n node.page)) [
        | inl is ↦ is
        | inr other ↦
            let zero_all = none node.page other in
            let own = covers-own node in
            let first = sum_by-cons (covers node.page) (node_run node) (map node_run rest) in
            absurd (omega (arith, zero_all, own, first))
      ],
      go rest (λ page other. let zero_all = none page other in
          let first = sum_by-cons (covers page) (node_run node) (map node_run rest) in
          omega (arith, zero_all, first)),
    )

-- the nodes of a changed tree stand on data pages, where the old ones and the pages do
pub spliced-data : (n : Numbers) (f : ℕ) (levels : List (List PageNode)) (from count : ℕ) (fresh : List Pair) (pages : List ℕ) →
    count_made (spliced f levels from count fresh pages) ≤ length pages → StandOnData n levels →
    ((page : ℕ) → is_data_page n page ≡ false → uses page (map page_run pages) ≡ 0) →
    StandOnData n (nodes_of_levels (spliced f levels from count fresh pages))
spliced-data n f levels from count fresh pages enough stand others =
    data-stand n (nodes_of_levels (spliced f levels from count fresh pages)) (λ page other.
    let bound = spliced-uses page f levels from count fresh pages enough in
    let old = data-unused n page levels stand other in
    let new = others page other in
    omega (arith, bound, old, new))
