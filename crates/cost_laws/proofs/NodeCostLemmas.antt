-- How many nodes a change makes: at most eight for each level before it, eight more, and one for each entry
-- that it brings. On a level at most four nodes are made, and one for every second pair that comes up to it; on
-- one that is raised above the old ones no more than that second half.
use Rattle.std.proofs.Common.{◌≡◌, ℕ, zero, suc, ◌+◌, ◌-◌, ◌*◌, ◌/◌, ◌<◌, ◌≤◌, Bool, true, false, cond, List, [], ◌∷◌, ◌++◌}
use Rattle.std.proofs.Common.{length, map, take, drop, refl, sym, ap, subst, arith, ◌∙◌, inl, inr, length-append, length-take}
use Rattle.std.proofs.Common.{length-drop, nat_eq}
use Rattle.std.specs.Prelude.{nat_lt}
use Rattle.std.specs.List.{AllByRecursion}
use Rattle.std.proofs.lemmas.Bool.{cases_Bool, cases_lt, eqb-true, eqb-false, leb-false, ltb-true, ltb-false}
use Rattle.std.proofs.lemmas.List.{length-map}
use Rattle.std.proofs.lemmas.Nat.{mul-le}
use Rattle.std.proofs.Math.Nat.{add-mul}
use Rattle.tree_model.specs.declared.entry.Pair.{Pair}
use Rattle.tree_model.proofs.PageCountLaws.{count-enough}
use Rattle.layout_model.specs.Levels.{PageNode, NewLevel, Site, pair_of, pairs_of_level, entries_of_levels, node_at, touched_site}
use Rattle.layout_model.specs.Levels.{exchanged, joins, joined, site_of, sizes_of, level_with, level_after}
use Rattle.layout_model.specs.Levels.{raised_levels, new_levels_from, spliced, is_top, count_made}
use Rattle.layout_laws.proofs.LevelLemmas.{before-low, count-cons, site_of-holds, through-high}
use Rattle.layout_laws.proofs.NamingLemmas.{new_levels_from-more, new_levels_from-top, site_of-within}
use Rattle.moment_model.specs.Version.{AreLevels, Carries, IsFilled, least_on}
use Rattle.change_laws.proofs.SizeLemmas.{made-length, nodes, sizes-length}
use Rattle.change_laws.proofs.SiteLemmas.{exchanged-length, first_pairs, node_at-rises, site_of-some}
use Rattle.change_laws.proofs.ShapeLemmas.{pairs_for_node, raised_levels-more, raised_levels-top}
use Rattle.change_laws.proofs.NodeCountLemmas.{made-cons}

-- ---- the pairs at a site

-- one node more has f pairs more at most
first_pairs-high : (f least : ℕ) (level : List PageNode) (k : ℕ) → AllByRecursion (IsFilled f least) level →
    first_pairs level (k + 1) ≤ first_pairs level k + f
first_pairs-high f least [] k filled = subst (λ (j : ℕ). first_pairs [] j ≤ first_pairs [] k + f) next none
  where
    next : suc k ≡ k + 1
    next = omega arith

    none : first_pairs [] (suc k) ≤ first_pairs [] k + f
    none = let goal : 0 ≤ first_pairs [] k + f = omega arith in goal
first_pairs-high f least (node ∷ rest) zero filled =
    let one : first_pairs (node ∷ rest) 1 ≡ length node.pairs + 0 = count-cons node [] in
    let here = filled.0.high in
    let goal : first_pairs (node ∷ rest) 1 ≤ 0 + f = omega (arith, one, here) in
    goal
first_pairs-high f least (node ∷ rest) (suc k) filled =
    let more = first_pairs-high f least rest k filled.1 in
    let one = count-cons node (take k rest) in
    let two = count-cons node (take (k + 1) rest) in
    let goal : first_pairs (node ∷ rest) (suc (k + 1)) ≤ first_pairs (node ∷ rest) (suc k) + f = omega (arith, more, one, two) in
    let at : suc (k + 1) ≡ suc k + 1 = omega arith in
    subst (λ (j : ℕ). first_pairs (node ∷ rest) j ≤ first_pairs (node ∷ rest) (suc k) + f) at goal

-- a site has the replaced pairs, and those of three nodes at most beside them
abbrev IsNarrow : ℕ → List PageNode → ℕ → ℕ → Site → Type 0
IsNarrow nodes level count f site = first_pairs level (site.before + site.nodes) ≤ first_pairs level site.before + count + nodes * f

touched-narrow : (f least : ℕ) (level : List PageNode) (from count : ℕ) → AllByRecursion (IsFilled f least) level →
    from + count ≤ length (pairs_of_level level) → IsNarrow 2 level count f (touched_site level from count)
touched-narrow f least level from count filled within =
    let at = cond (nat_eq count 0) (from - 1) from in
    let before = node_at level at in
    let last = node_at level (from + count - 1) in
    let low = before-low level (from + count - 1) in
    let step = first_pairs-high f least level last filled in
    let front : from ≤ first_pairs level before + f = front-near in
    let end : before + (suc last - before) ≡ last + 1 = ends in
    let same : first_pairs level (before + (suc last - before)) ≡ first_pairs level (last + 1) = ap (first_pairs level) end in
    let goal : first_pairs level (before + (suc last - before)) ≤ first_pairs level before + count + 2 * f =
    omega (arith, low, step, front, same) in
    goal
  where
    choice : (b : Bool) → nat_eq count 0 ≡ b → cond (nat_eq count 0) (from - 1) from ≡ cond b (from - 1) from
    choice b is = ap (λ (t : Bool). cond t (from - 1) from) is

    reach : (at : ℕ) → from ≤ at + 1 → (0 < from → at < length (pairs_of_level level)) → from ≤ first_pairs level (node_at level at) + f
    reach at near inside =
        elim (cases_lt 0 from) [
          | inr none ↦ omega (arith, none)
          | inl some ↦
              let through = through-high level at (inside some) in
              let step = first_pairs-high f least level (node_at level at) filled in
              let one : suc (node_at level at) ≡ node_at level at + 1 = omega arith in
              let next : first_pairs level (suc (node_at level at)) ≡ first_pairs level (node_at level at + 1) =
              ap (first_pairs level) one in
              omega (arith, through, step, next, near)
        ]

    front-near : from ≤ first_pairs level (node_at level (cond (nat_eq count 0) (from - 1) from)) + f
    front-near =
        let P : ℕ → Type 0 = λ k. from ≤ first_pairs level (node_at level k) + f in
        elim (cases_Bool (nat_eq count 0)) [
          | inl none ↦ subst P (sym (choice true none)) (reach (from - 1) (omega arith) (λ some. omega (arith, some, within)))
          | inr some ↦
              let any = eqb-false count 0 some in
              elim (cases_lt 0 count) [
                | inr nothing ↦ absurd (any (omega (arith, nothing)))
                | inl pair ↦ subst P (sym (choice false some)) (reach from (omega arith) (λ first. omega (arith, pair, within)))
              ]
        ]

    rises : cond (nat_eq count 0) (from - 1) from ≤ from + count - 1
    rises =
        let P : ℕ → Type 0 = λ k. k ≤ from + count - 1 in
        elim (cases_Bool (nat_eq count 0)) [
          | inl none ↦
              let nothing = eqb-true count 0 none in
              subst P (sym (choice true none)) (omega (arith, nothing))
          | inr some ↦
              let any = eqb-false count 0 some in
              elim (cases_lt 0 count) [
                | inr nothing ↦ absurd (any (omega (arith, nothing)))
                | inl pair ↦ subst P (sym (choice false some)) (omega (arith, pair))
              ]
        ]

    ends : node_at level (cond (nat_eq count 0) (from - 1) from)
        + (suc (node_at level (from + count - 1)) - node_at level (cond (nat_eq count 0) (from - 1) from))
        ≡ node_at level (from + count - 1) + 1
    ends =
        let less = node_at-rises level (cond (nat_eq count 0) (from - 1) from) (from + count - 1) rises in
        omega (arith, less)

site-narrow : (f least : ℕ) (level : List PageNode) (from count : ℕ) (fresh : List Pair) → AllByRecursion (IsFilled f least) level →
    from + count ≤ length (pairs_of_level level) → IsNarrow 3 level count f (site_of f level from count fresh)
site-narrow f least level from count fresh filled within =
    let at = touched_site level from count in
    let narrow = touched-narrow f least level from count filled within in
    let P : Site → Type 0 = IsNarrow 3 level count f in
    elim (cases_Bool (joins f level at (length (exchanged level at from count fresh)))) [
      | inr alone ↦
          let step : site_of f level from count fresh ≡ at = rw (alone, site_of) in
          subst P (sym step) (omega (arith, narrow))
      | inl join ↦
          let step : site_of f level from count fresh ≡ joined level at = rw (join, site_of) in
          elim (cases_Bool (nat_lt 0 at.before)) [
            | inl some ↦
                let any = ltb-true 0 at.before some in
                let wide : joined level at ≡ record { before = at.before - 1; nodes = at.nodes + 1 } = rw (some, joined) in
                let gained = first_pairs-high f least level (at.before - 1) filled in
                let again : at.before - 1 + 1 ≡ at.before = omega (arith, any) in
                let same : first_pairs level (at.before - 1 + 1) ≡ first_pairs level at.before = ap (first_pairs level) again in
                let moved : at.before - 1 + (at.nodes + 1) ≡ at.before + at.nodes = omega (arith, any) in
                let end : first_pairs level (at.before - 1 + (at.nodes + 1)) ≡ first_pairs level (at.before + at.nodes) =
                ap (first_pairs level) moved in
                let goal : IsNarrow 3 level count f (record { before = at.before - 1; nodes = at.nodes + 1 }) =
                omega (arith, narrow, gained, same, end) in
                subst P (sym (step ∙ wide)) goal
            | inr first ↦
                let none = ltb-false 0 at.before first in
                let wide : joined level at ≡ record { before = 0; nodes = at.nodes + 1 } = rw (first, joined) in
                let gained = first_pairs-high f least level (at.before + at.nodes) filled in
                let begins : 0 ≡ at.before = omega (arith, none) in
                let front : first_pairs level 0 ≡ first_pairs level at.before = ap (first_pairs level) begins in
                let ends : 0 + (at.nodes + 1) ≡ at.before + at.nodes + 1 = omega (arith, none) in
                let end : first_pairs level (0 + (at.nodes + 1)) ≡ first_pairs level (at.before + at.nodes + 1) =
                ap (first_pairs level) ends in
                let goal : IsNarrow 3 level count f (record { before = 0; nodes = at.nodes + 1 }) =
                omega (arith, narrow, gained, front, end) in
                subst P (sym (step ∙ wide)) goal
          ]
    ]

-- ---- the nodes that a level makes

-- four at most, and one for every second pair that comes
pub level-made : (f least : ℕ) (level : List PageNode) (from count : ℕ) (fresh : List Pair) (pages : List ℕ) → 4 ≤ f →
    AllByRecursion (IsFilled f least) level → from + count ≤ length (pairs_of_level level) →
    2 * length (level_after f level from count fresh pages).made ≤ 8 + length fresh
level-made f least level from count fresh pages four filled within =
    let site = site_of f level from count fresh in
    let pairs = exchanged level site from count fresh in
    let some : 0 < f = omega (arith, four) in
    let half = length fresh / 2 in
    let count_made = made-length pages (sizes_of f (length pairs)) pairs ∙ sizes-length f (length pairs) some in
    let long = exchanged-length level site from count fresh (site_of-holds f level from count fresh within) in
    let narrow = site-narrow f least level from count fresh filled within in
    let rows : half * 2 ≤ half * f = mul-le half 2 half f (omega arith) (omega (arith, four)) in
    let all : (4 + half) * f ≡ 4 * f + half * f = add-mul 4 half f in
    let fits : length pairs ≤ (4 + half) * f = omega (arith, long, narrow, rows, all, four) in
    let few = count-enough f (length pairs) (4 + half) some fits in
    let made : length (level_after f level from count fresh pages).made ≡ nodes f (length pairs) = count_made in
    omega (arith, made, few)

-- a level above made nodes alone makes no more than one for every second of them
raised-made : (f : ℕ) (fresh : List Pair) (pages : List ℕ) → 4 ≤ f → 2 ≤ length fresh →
    2 * length (level_after f [] 0 0 fresh pages).made ≤ length fresh
raised-made f fresh pages four two =
    let site = site_of f [] 0 0 fresh in
    let pairs = exchanged [] site 0 0 fresh in
    let some : 0 < f = omega (arith, four) in
    let half = length fresh / 2 in
    let count_made = made-length pages (sizes_of f (length pairs)) pairs ∙ sizes-length f (length pairs) some in
    let long = exchanged-length [] site 0 0 fresh (site_of-holds f [] 0 0 fresh (omega arith)) in
    let alone : (k : ℕ) → first_pairs [] k ≡ 0 = none in
    let before = alone site.before in
    let behind = alone (site.before + site.nodes) in
    let rows : half * 4 ≤ half * f = mul-le half 4 half f (omega arith) four in
    let few = count-enough f (length pairs) half some (omega (arith, long, before, behind, rows, two)) in
    let made : length (level_after f [] 0 0 fresh pages).made ≡ nodes f (length pairs) = count_made in
    omega (arith, made, few)
  where
    none : (k : ℕ) → first_pairs [] k ≡ 0
    none zero = refl
    none (suc k) = refl

-- ---- all levels

-- levels make few nodes, by those that the lowest of them makes and the old levels above it
abbrev AreFew : NewLevel → ℕ → List NewLevel → Type 0
AreFew below old levels = count_made levels ≤ 2 * length below.made + 8 * old

alone-few : (below : NewLevel) (old : ℕ) → AreFew below old (below ∷ [])
alone-few below old = let all = made-cons below [] in omega (arith, all)

-- a level of one node or none is made anew
whole-made : (level : List PageNode) (site : Site) (made : List PageNode) → length level ≤ 1 → 1 ≤ site.nodes →
    (0 < length level → site.before + site.nodes ≤ length level) → length (level_with level site made).nodes ≡ length made
whole-made level site made few some within =
    let front = take site.before level in
    let back = drop (site.before + site.nodes) level in
    let one = length-append front (made ++ back) in
    let two = length-append made back in
    let before = length-take site.before level in
    let behind = length-drop (site.before + site.nodes) level in
    elim (cases_lt 0 (length level)) [
      | inl any ↦ let inside = within any in omega (arith, one, two, before, behind, few, some, inside)
      | inr none ↦ omega (arith, one, two, before, behind, none)
    ]

first-made : (f : ℕ) (fresh : List Pair) (pages : List ℕ) →
    length (level_after f [] 0 0 fresh pages).nodes ≡ length (level_after f [] 0 0 fresh pages).made
first-made f fresh pages =
    whole-made [] (site_of f [] 0 0 fresh) (level_after f [] 0 0 fresh pages).made (omega arith) (site_of-some f [] 0 0 fresh)
    (λ any. absurd (omega (arith, any)))

-- levels that are raised above a level of made nodes alone: no more nodes than it has
raised-few : (steps f : ℕ) (below : NewLevel) (pages : List ℕ) → 4 ≤ f → length below.nodes ≡ length below.made →
    AreFew below 0 (raised_levels steps f below pages)
raised-few zero f below pages four same = alone-few below 0
raised-few (suc steps) f below pages four same =
    elim (cases_Bool (is_top below)) [
      | inl top ↦ subst (AreFew below 0) (sym (raised_levels-top steps f below pages top)) (alone-few below 0)
      | inr more ↦
          let left = drop (length below.made) pages in
          let next = level_after f [] 0 0 (map pair_of below.nodes) left in
          let many = leb-false (length below.nodes) 1 more in
          let names = length-map below.nodes pair_of in
          let made = raised-made f (map pair_of below.nodes) left four (omega (arith, many, names)) in
          let rest = raised-few steps f next left four (first-made f (map pair_of below.nodes) left) in
          let all = made-cons below (raised_levels steps f next left) in
          subst (AreFew below 0) (sym (raised_levels-more steps f below pages more)) (omega (arith, made, rest, all, names, same))
    ]

-- the levels from a new one on
from-few : (f : ℕ) (level : List PageNode) (site : Site) (made : List PageNode) (old : List (List PageNode)) (pages : List ℕ) → 4 ≤ f →
    1 ≤ site.nodes → site.before + site.nodes ≤ length level → Carries f level old →
    AreFew (level_with level site made) (length old) (new_levels_from f (level_with level site made) old pages)
from-few f level site made [] pages four some within carries =
    let alone : length level ≡ 1 = carries in
    raised-few (length (level_with level site made).nodes) f (level_with level site made) pages four
    (whole-made level site made (omega (arith, alone)) some (λ any. within))
from-few f level site made (up ∷ old) pages four some within carries =
    let below = level_with level site made in
    elim (cases_Bool (is_top below)) [
      | inl top ↦ subst (AreFew below (suc (length old))) (sym (new_levels_from-top f below up old pages top))
          (alone-few below (suc (length old)))
      | inr more ↦
          let left = drop (length made) pages in
          let next = level_after f up site.before site.nodes (map pair_of made) left in
          let next_site = site_of f up site.before site.nodes (map pair_of made) in
          let two = carries.0 in
          let long : length (pairs_of_level up) ≡ length level = ap length carries.1 ∙ length-map level pair_of in
          let inside : site.before + site.nodes ≤ length (pairs_of_level up) = omega (arith, long, within) in
          let names = length-map made pair_of in
          let new = level-made f (least_on f 2 up) up site.before site.nodes (map pair_of made) left four carries.2 inside in
          let rest = from-few f up next_site next.made old left four
          (site_of-some f up site.before site.nodes (map pair_of made))
          (site_of-within f up site.before site.nodes (map pair_of made) (omega (arith, long, two)) inside) carries.3 in
          let all = made-cons below (new_levels_from f next old left) in
          subst (AreFew below (suc (length old))) (sym (new_levels_from-more f below up old pages more))
          (omega (arith, new, rest, all, names))
    ]

-- the nodes that a change makes, by the height before it
pub spliced-few : (f : ℕ) (levels : List (List PageNode)) (from count : ℕ) (fresh : List Pair) (pages : List ℕ) → 4 ≤ f →
    AreLevels f levels → from + count ≤ length (entries_of_levels levels) →
    count_made (spliced f levels from count fresh pages) ≤ 8 * (length levels + 1) + length fresh
unfolding spliced
spliced-few f [] from count fresh pages four are within =
    let first = level_after f [] 0 0 fresh pages in
    let made = level-made f 1 [] 0 0 fresh pages four tt (omega arith) in
    let few = raised-few (length first.nodes) f first pages four (first-made f fresh pages) in
    omega (arith, made, few)
spliced-few f (level ∷ old) from count fresh pages four are within =
    let first = level_after f level from count fresh pages in
    let made = level-made f (least_on f 1 level) level from count fresh pages four are.0 within in
    let pair = pairs_for_node f level four are.0 (carried-some f level old are.1) in
    let few = from-few f level (site_of f level from count fresh) first.made old pages four
    (site_of-some f level from count fresh) (site_of-within f level from count fresh pair within) are.1 in
    omega (arith, made, few)
  where
    carried-some : (f : ℕ) (level : List PageNode) (old : List (List PageNode)) → Carries f level old → 0 < length level
    carried-some f level [] one = omega (arith, one)
    carried-some f level (up ∷ old) carries = let two = carries.0 in omega (arith, two)
