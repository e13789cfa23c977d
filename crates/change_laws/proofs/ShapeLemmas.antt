-- The new levels of a tree are those of a tree: each level names the one below it, and the highest has one node.
use Rattle.std.proofs.Common.{◌≡◌, ℕ, zero, suc, ◌+◌, ◌-◌, ◌*◌, ◌/◌, ◌<◌, ◌≤◌, true, false, List, [], ◌∷◌, ◌++◌, length}
use Rattle.std.proofs.Common.{map, drop, sym, ap, subst, arith, ◌∙◌, inl, inr, nat_eq, nat_lt}
use Rattle.std.proofs.lemmas.Bool.{cases_Bool, cases_lt, false≢true, leb-true, leb-false, eqb-false}
use Rattle.std.proofs.lemmas.Nat.{mul-le}
use Rattle.std.proofs.lemmas.List.{append-nil, length-map}
use Rattle.tree_model.specs.declared.entry.Pair.{Pair}
use Rattle.layout_model.specs.Levels.{PageNode, NewLevel, Site, pair_of, pairs_of_level, entries_of_levels, exchanged}
use Rattle.layout_model.specs.Levels.{joins, site_of, sizes_of, cut_into, on_pages, level_with, level_after}
use Rattle.layout_model.specs.Levels.{raised_levels, new_levels_from, spliced, is_top, nodes_of_levels, unless_empty}
use Rattle.layout_laws.proofs.LevelLemmas.{count-cons, level-spliced, new_levels_from-head}
use Rattle.layout_laws.proofs.NamingLemmas.{site_of-within, names-step, new_levels_from-top, new_levels_from-more}
use Rattle.layout_laws.proofs.NamingLemmas.{last_test}
use Rattle.tree_model.proofs.PageCountLaws.{count-enough}
use Rattle.moment_model.specs.Version.{AreFilled, Carries, AreLevels}
use Rattle.change_laws.proofs.SizeLemmas.{made-length, nodes, sizes-length}
use Rattle.change_laws.proofs.FillLemmas.{filled-low, filled-weaker, filled-with, level-filled}

-- ---- all levels

-- a level with a pair has a node
node_for_pairs : (level : List PageNode) → 0 < length (pairs_of_level level) → 1 ≤ length level
node_for_pairs [] some = let none : 0 < 0 = some in absurd (omega (arith, none))
node_for_pairs (node ∷ rest) some = let one : 1 ≤ suc (length rest) = omega arith in one

-- a filled level with a node has a pair
pub pairs_for_node : (f : ℕ) (level : List PageNode) → 4 ≤ f → AreFilled f 1 level → 0 < length level → 0 < length (pairs_of_level level)
pairs_for_node f [] four filled some = let none : 0 < 0 = some in absurd (omega (arith, none))
pairs_for_node f (node ∷ []) four filled some = let count = count-cons node [] in let one = filled.0.low in omega (arith, count, one)
pairs_for_node f (node ∷ next ∷ rest) four filled some =
    let count = count-cons node (next ∷ rest) in
    let low = filled-low f 1 (node ∷ next ∷ rest) filled (let two : 2 ≤ suc (suc (length rest)) = omega arith in two) in
    let half = low.0 in
    omega (arith, count, half, four)

-- the nodes of new levels
abbrev pub level_nodes : List NewLevel → List (List PageNode)
level_nodes levels = map (λ (level : NewLevel). level.nodes) levels

top-one : (level : NewLevel) → is_top level ≡ true → 1 ≤ length level.nodes → length level.nodes ≡ 1
top-one level top some = let few = leb-true (length level.nodes) 1 top in omega (arith, few, some)

pub raised_levels-top : (steps f : ℕ) (below : NewLevel) (pages : List ℕ) → is_top below ≡ true →
    raised_levels (suc steps) f below pages ≡ below ∷ []
raised_levels-top steps f below pages top = rw (top, raised_levels)

pub raised_levels-more : (steps f : ℕ) (below : NewLevel) (pages : List ℕ) → is_top below ≡ false → raised_levels (suc steps) f below pages
    ≡ below ∷ raised_levels steps f (level_after f [] 0 0 (map pair_of below.nodes)
    (drop (length below.made) pages)) (drop (length below.made) pages)
raised_levels-more steps f below pages more = rw (more, raised_levels)

-- where there is no node the site is the first place
raised_levels-site : (f : ℕ) (fresh : List Pair) → site_of f [] 0 0 fresh ≡ record { before = 0; nodes = 1 }
raised_levels-site f fresh =
    let at : Site = record { before = 0; nodes = 1 } in
    let J = exchanged [] at 0 0 fresh in
    elim (cases_Bool (joins f [] at (length J))) [
      | inr alone ↦ rw (alone, site_of)
      | inl join ↦
          let past : nat_lt 1 0 ≡ true = last_test (nat_lt 0 (length J)) (nat_lt (length J) (f / 2)) (nat_lt 1 0) join in
          absurd (false≢true past)
    ]

-- a level of its own has as many nodes as hold its pairs
raised_levels-count : (f : ℕ) (fresh : List Pair) (pages : List ℕ) → 0 < f →
    length (level_after f [] 0 0 fresh pages).nodes ≡ nodes f (length fresh)
raised_levels-count f fresh pages some =
    let all = fresh ++ [] in
    let P : Site → Type 0 = λ site. length (level_with [] site
    (on_pages pages (cut_into (sizes_of f (length (exchanged [] site 0 0 fresh)))
    (exchanged [] site 0 0 fresh)))).nodes ≡ nodes f (length fresh) in
    let made = on_pages pages (cut_into (sizes_of f (length all)) all) in
    let count : length (made ++ []) ≡ nodes f (length fresh) =
    ap length (append-nil made)
    ∙ (made-length pages (sizes_of f (length all)) all
    ∙ (sizes-length f (length all) some ∙ ap (λ (xs : List Pair). nodes f (length xs)) (append-nil fresh))) in
    subst P (sym (raised_levels-site f fresh)) count

-- levels that are raised above a level carry it
raised_levels-carries : (steps f : ℕ) (below : NewLevel) (pages : List ℕ) → 4 ≤ f → 1 ≤ length below.nodes → length below.nodes ≤ steps →
    (above : List NewLevel) × (raised_levels steps f below pages ≡ below ∷ above) × Carries f below.nodes (level_nodes above)
raised_levels-carries zero f below pages four some few = absurd (omega (arith, some, few))
raised_levels-carries (suc steps) f below pages four some few =
    elim (cases_Bool (is_top below)) [
      | inl top ↦ ([], raised_levels-top steps f below pages top, top-one below top some)
      | inr more ↦
          let left = drop (length below.made) pages in
          let next = level_after f [] 0 0 (map pair_of below.nodes) left in
          let many = leb-false (length below.nodes) 1 more in
          let f_some : 0 < f = omega (arith, four) in
          let named : pairs_of_level next.nodes ≡ map pair_of below.nodes =
          level-spliced f [] 0 0 (map pair_of below.nodes) left f_some (omega arith)
          ∙ append-nil (map pair_of below.nodes) in
          let pairs : length (pairs_of_level next.nodes) ≡ length below.nodes = ap length named ∙ length-map below.nodes pair_of in
          let filled : AreFilled f 1 next.nodes =
          level-filled f [] 0 0 (map pair_of below.nodes) left four tt (omega arith)
          (λ node. absurd (omega (arith, node))) in
          let count : length next.nodes ≡ nodes f (length below.nodes) =
          raised_levels-count f (map pair_of below.nodes) left f_some ∙ ap (nodes f) (length-map below.nodes pair_of) in
          let rows : (length below.nodes - 1) * 4 ≤ (length below.nodes - 1) * f =
          mul-le (length below.nodes - 1) 4 (length below.nodes - 1) f (omega arith) four in
          let fewer = count-enough f (length below.nodes) (length below.nodes - 1) f_some (omega (arith, rows, many)) in
          let some_next = node_for_pairs next.nodes (omega (arith, pairs, many)) in
          let inner = raised_levels-carries steps f next left four some_next (omega (arith, count, fewer, few, many)) in (
            next ∷ inner.0,
            raised_levels-more steps f below pages more ∙ ap (λ (xs : List NewLevel). below ∷ xs) inner.1,
            (
              let two : 2 ≤ length below.nodes = omega (arith, many) in
                  two,
              named,
              filled-with f 2 next.nodes filled (omega (arith, pairs, many)),
              inner.2,
            ),
          )
    ]

-- the levels from a new one on carry it
from-carries : (f : ℕ) (level : List PageNode) (site : Site) (made : List PageNode) (old : List (List PageNode)) (pages : List ℕ) → 4 ≤ f →
    site.before + site.nodes ≤ length level → 1 ≤ length (level_with level site made).nodes → Carries f level old →
    (above : List NewLevel) × (new_levels_from f (level_with level site made) old pages ≡ level_with level site made ∷ above)
    × Carries f (level_with level site made).nodes (level_nodes above)
from-carries f level site made [] pages four within some carries =
    raised_levels-carries (length (level_with level site made).nodes) f (level_with level site made) pages four some (omega arith)
from-carries f level site made (up ∷ old) pages four within some carries =
    let below = level_with level site made in
    elim (cases_Bool (is_top below)) [
      | inl top ↦ ([], new_levels_from-top f below up old pages top, top-one below top some)
      | inr more ↦
          let left = drop (length made) pages in
          let f_some : 0 < f = omega (arith, four) in
          let many = leb-false (length below.nodes) 1 more in
          let two_old = carries.0 in
          let named_old = carries.1 in
          let next = level_after f up site.before site.nodes (map pair_of made) left in
          let named : pairs_of_level next.nodes ≡ map pair_of below.nodes = names-step f level up site made left f_some within named_old in
          let long : length (pairs_of_level up) ≡ length level = ap length named_old ∙ length-map level pair_of in
          let inside : site.before + site.nodes ≤ length (pairs_of_level up) = omega (arith, long, within) in
          let pairs : length (pairs_of_level next.nodes) ≡ length below.nodes = ap length named ∙ length-map below.nodes pair_of in
          let any : 0 < length (pairs_of_level up) = omega (arith, long, two_old) in
          let filled : AreFilled f 1 next.nodes =
          level-filled f up site.before site.nodes (map pair_of made) left four (filled-weaker f up carries.2)
          inside (λ node. any) in
          let next_site = site_of f up site.before site.nodes (map pair_of made) in
          let next_pairs = exchanged up next_site site.before site.nodes (map pair_of made) in
          let some_next = node_for_pairs next.nodes (omega (arith, pairs, many)) in
          let inner = from-carries f up next_site (on_pages left (cut_into (sizes_of f (length next_pairs)) next_pairs)) old left four
          (site_of-within f up site.before site.nodes (map pair_of made) any inside) some_next carries.3 in (
            next ∷ inner.0,
            new_levels_from-more f below up old pages more ∙ ap (λ (xs : List NewLevel). below ∷ xs) inner.1,
            (
              let two : 2 ≤ length below.nodes = omega (arith, many) in
                  two,
              named,
              filled-with f 2 next.nodes filled (omega (arith, pairs, many)),
              inner.2,
            ),
          )
    ]

-- a first level and what it carries are the levels of a tree, or there is none
levels-top : (f : ℕ) (first : NewLevel) (levels : List NewLevel) → AreFilled f 1 first.nodes →
    (above : List NewLevel) × (levels ≡ first ∷ above) →
    (1 ≤ length first.nodes → (above : List NewLevel) × (levels ≡ first ∷ above)
    × Carries f first.nodes (level_nodes above)) → AreLevels f (nodes_of_levels levels)
levels-top f first levels filled begins carries =
    let P : List NewLevel → Type 0 = λ ls. AreLevels f (nodes_of_levels ls) in
    elim (cases_Bool (nat_eq (length first.nodes) 0)) [
      | inl none ↦
          let step : unless_empty (first ∷ begins.0) ≡ [] = rw (none, unless_empty) in
          subst P (sym begins.1) (subst (λ (ls : List NewLevel). AreLevels f (level_nodes ls)) (sym step) tt)
      | inr some ↦
          let one = eqb-false (length first.nodes) 0 some in
          let any : 1 ≤ length first.nodes = elim (cases_lt 0 (length first.nodes)) [
            | inl node ↦ omega (arith, node)
            | inr empty ↦ absurd (one (omega (arith, empty)))
          ] in
          let all = carries any in
          let step : unless_empty (first ∷ all.0) ≡ first ∷ all.0 = rw (some, unless_empty) in
          subst P (sym all.1) (subst (λ (ls : List NewLevel). AreLevels f (level_nodes ls)) (sym step) (filled, all.2))
    ]

-- the new levels of a tree are those of a tree
pub spliced-levels : (f : ℕ) (levels : List (List PageNode)) (from count : ℕ) (fresh : List Pair) (pages : List ℕ) →
    4 ≤ f → AreLevels f levels →
    from + count ≤ length (entries_of_levels levels) → AreLevels f (nodes_of_levels (spliced f levels from count fresh pages))
unfolding spliced
spliced-levels f [] from count fresh pages four are within =
    let first = level_after f [] 0 0 fresh pages in
    let filled : AreFilled f 1 first.nodes =
    level-filled f [] 0 0 fresh pages four tt (omega arith) (λ node. absurd (omega (arith, node))) in
    levels-top f first (new_levels_from f first [] pages) filled (new_levels_from-head f first [] pages)
    (λ some. raised_levels-carries (length first.nodes) f first pages four some (omega arith))
spliced-levels f (level ∷ old) from count fresh pages four are within =
    let first = level_after f level from count fresh pages in
    let site = site_of f level from count fresh in
    let all = exchanged level site from count fresh in
    let has : 0 < length level = carried-some f level old are.1 in
    let pair = pairs_for_node f level four are.0 has in
    let filled : AreFilled f 1 first.nodes = level-filled f level from count fresh pages four are.0 within (λ node. pair) in
    levels-top f first (new_levels_from f first old pages) filled (new_levels_from-head f first old pages)
    (λ some. from-carries f level site (on_pages pages (cut_into (sizes_of f (length all)) all)) old pages four
    (site_of-within f level from count fresh pair within) some are.1)
  where
    carried-some : (f : ℕ) (level : List PageNode) (old : List (List PageNode)) → Carries f level old → 0 < length level
    carried-some f level [] one = omega (arith, one)
    carried-some f level (up ∷ old) carries = let two = carries.0 in omega (arith, two)
