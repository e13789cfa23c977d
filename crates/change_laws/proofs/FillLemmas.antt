-- A new level is filled: each of its nodes but a root is half full at least.
use Rattle.std.proofs.Common.{◌≡◌, ℕ, zero, suc, ◌+◌, ◌-◌, ◌*◌, ◌/◌, ◌<◌, ◌≤◌, Bool, false, ◌&&◌, List, [], ◌∷◌, ◌++◌}
use Rattle.std.proofs.Common.{length, take, drop, refl, sym, ap, subst, arith, ◌∙◌, inl, inr, length-append}
use Rattle.std.proofs.Common.{length-take, length-drop, nat_eq, nat_lt}
use Rattle.std.specs.Prelude.{if◌then◌else◌}
use Rattle.std.specs.List.{AllByRecursion}
use Rattle.std.proofs.lemmas.Bool.{cases_Bool, cases_lt, ltb-true, ltb-false, ne_eqb, and_cases, and_parts}
use Rattle.std.proofs.lemmas.List.{drop_all}
use Rattle.base_laws.proofs.ListLaws.{all-append, all-map}
use Rattle.tree_model.specs.declared.entry.Pair.{Pair}
use Rattle.layout_model.specs.Levels.{PageNode, Site, pairs_of_level, touched_site, exchanged, joins, joined, site_of}
use Rattle.layout_model.specs.Levels.{sizes_of, cut_into, on_pages, level_after}
use Rattle.layout_laws.proofs.LevelLemmas.{Holds, count-cons, touched_site-holds, site_of-holds, sizes-total}
use Rattle.layout_laws.proofs.NamingLemmas.{touched_site-within, site_of-within}
use Rattle.tree_model.proofs.PageCountLaws.{count-enough, count-none}
use Rattle.moment_model.specs.Version.{IsFilled, least_on, AreFilled}
use Rattle.change_laws.proofs.SizeLemmas.{High, Low, all-drop, all-take, made-length, made-sizes, nodes, sizes-high}
use Rattle.change_laws.proofs.SizeLemmas.{sizes-length, sizes-low, sizes-some, total}
use Rattle.change_laws.proofs.SiteLemmas.{exchanged-length, first_pairs, first_pairs-step, site_of-some}
use Rattle.change_laws.proofs.SiteLemmas.{touched_site-some}

-- ---- a level

-- a level of two nodes or more has each half full
pub filled-low : (f root : ℕ) (level : List PageNode) → AreFilled f root level → 2 ≤ length level → AllByRecursion (Low (f / 2)) level
filled-low f root level filled many =
    let other : nat_eq (length level) 1 ≡ false = ne_eqb (length level) 1 (λ one. omega (arith, one, many)) in
    let P : Bool → Type 0 = λ b. AllByRecursion (IsFilled f (if b then root else f / 2)) level in
    let half : AllByRecursion (IsFilled f (f / 2)) level = subst P other filled in
    all-map (IsFilled f (f / 2)) (λ node. f / 2 ≤ length node.pairs) (λ node is. is.low) level half

filled-high : (f root : ℕ) (level : List PageNode) → AreFilled f root level → AllByRecursion (High f) level
filled-high f root level filled =
    all-map (IsFilled f (least_on f root level)) (λ node. length node.pairs ≤ f) (λ node is. is.high) level filled

all-both : (f least : ℕ) (level : List PageNode) → AllByRecursion (Low least) level →
    AllByRecursion (High f) level → AllByRecursion (IsFilled f least) level
all-both f least [] low high = tt
all-both f least (node ∷ rest) low high = (record { low = low.0; high = high.0 }, all-both f least rest low.1 high.1)

-- a level is filled where each node is half full, or it is alone and has enough
pub filled-from : (f root : ℕ) (level : List PageNode) → AllByRecursion (High f) level →
    (length level ≡ 1 → AllByRecursion (Low root) level) →
    (2 ≤ length level → AllByRecursion (Low (f / 2)) level) → AreFilled f root level
filled-from f root [] high alone many = tt
filled-from f root (node ∷ []) high alone many = all-both f root (node ∷ []) (alone refl) high
filled-from f root (node ∷ next ∷ rest) high alone many =
    let two : 2 ≤ suc (suc (length rest)) = omega arith in
    let other : nat_eq (suc (suc (length rest))) 1 ≡ false = ne_eqb (suc (suc (length rest))) 1 (λ one. omega (arith, one)) in
    let P : Bool → Type 0 = λ b. AllByRecursion (IsFilled f (if b then root else f / 2)) (node ∷ next ∷ rest) in
    subst P (sym other) (all-both f (f / 2) (node ∷ next ∷ rest) (many two) high)

-- a level with so many pairs
pub filled-with : (f root : ℕ) (level : List PageNode) → AreFilled f 1 level → root ≤ length (pairs_of_level level) → AreFilled f root level
filled-with f root level filled pairs =
    filled-from f root level (filled-high f 1 level filled) (λ one. go level one pairs) (λ many. filled-low f 1 level filled many)
  where
    go : (level : List PageNode) → length level ≡ 1 → root ≤ length (pairs_of_level level) →
        AllByRecursion (λ (node : PageNode). root ≤ length node.pairs) level
    go [] one pairs = tt
    go (node ∷ []) one pairs = let count = count-cons node [] in (omega (arith, count, pairs), tt)
    go (node ∷ next ∷ rest) one pairs = let two : suc (suc (length rest)) ≡ 1 = one in absurd (omega (arith, two))

-- a level that is more than half of a node above is one above level 1
pub filled-weaker : (f : ℕ) (level : List PageNode) → AreFilled f 2 level → AreFilled f 1 level
filled-weaker f level filled =
    filled-from f 1 level (filled-high f 2 level filled) (λ one. go level one filled) (λ many. filled-low f 2 level filled many)
  where
    go : (level : List PageNode) → length level ≡ 1 → AreFilled f 2 level →
        AllByRecursion (λ (node : PageNode). 1 ≤ length node.pairs) level
    go [] one filled = tt
    go (node ∷ []) one filled = let two = filled.0.low in (omega (arith, two), tt)
    go (node ∷ next ∷ rest) one filled = let two : suc (suc (length rest)) ≡ 1 = one in absurd (omega (arith, two))

-- the nodes of a level that aren't at the site
record IsKept (f : ℕ) (level : List PageNode) (site : Site) : Type 0 where
  front : AllByRecursion (Low (f / 2)) (take site.before level)
  back : AllByRecursion (Low (f / 2)) (drop (site.before + site.nodes) level)

-- they are half full
kept-low : (f : ℕ) (level : List PageNode) (site : Site) → AreFilled f 1 level → 1 ≤ site.nodes →
    (0 < length level → site.before + site.nodes ≤ length level) → IsKept f level site
kept-low f [] site filled some within = record { front = none-taken site.before; back = none-left (site.before + site.nodes) }
  where
    none-taken : (k : ℕ) → AllByRecursion (Low (f / 2)) (take k [])
    none-taken zero = tt
    none-taken (suc k) = tt

    none-left : (k : ℕ) → AllByRecursion (Low (f / 2)) (drop k [])
    none-left zero = tt
    none-left (suc k) = tt
kept-low f (node ∷ []) site filled some within =
    let near : site.before + site.nodes ≤ 1 = within (let one : 0 < 1 = omega arith in one) in
    let first : site.before ≡ 0 = omega (arith, near, some) in
    let past : drop (site.before + site.nodes) (node ∷ []) ≡ [] =
    drop_all (site.before + site.nodes) (node ∷ [])
    (let one : 1 ≤ site.before + site.nodes = omega (arith, some) in one) in
    record {
      front = subst (λ (k : ℕ). AllByRecursion (Low (f / 2)) (take k (node ∷ []))) (sym first) tt;
      back = subst (AllByRecursion (Low (f / 2))) (sym past) tt;
    }
kept-low f (node ∷ next ∷ rest) site filled some within =
    let low = filled-low f 1 (node ∷ next ∷ rest) filled (let two : 2 ≤ suc (suc (length rest)) = omega arith in two) in
    record {
      front = all-take (Low (f / 2)) site.before (node ∷ next ∷ rest) low;
      back = all-drop (Low (f / 2)) (site.before + site.nodes) (node ∷ next ∷ rest) low;
    }

-- where few pairs are left the whole level was touched
few-whole : (f : ℕ) (level : List PageNode) (from count : ℕ) (fresh : List Pair) → 4 ≤ f → AreFilled f 1 level →
    from + count ≤ length (pairs_of_level level) →
    (0 < length level → 0 < length (pairs_of_level level)) →
    0 < length (exchanged level (site_of f level from count fresh) from count fresh) →
    length (exchanged level (site_of f level from count fresh) from count fresh) < f / 2 →
    length level ≤ (site_of f level from count fresh).nodes
few-whole f level from count fresh four filled within pairs some few =
    let at = touched_site level from count in
    let J = exchanged level at from count fresh in
    let any = touched_site-some level from count in
    elim (cases_Bool (joins f level at (length J))) [
      | inr alone ↦
          let step : site_of f level from count fresh ≡ at = rw (alone, site_of) in
          let some_at : 0 < length J = subst (λ (s : Site). 0 < length (exchanged level s from count fresh)) step some in
          let few_at : length J < f / 2 = subst (λ (s : Site). length (exchanged level s from count fresh) < f / 2) step few in
          let all : length level ≤ at.nodes = elim (and_cases (nat_lt 0 (length J))
          (nat_lt (length J) (f / 2) && nat_lt at.nodes (length level)) alone) [
            | inl none ↦ let nothing = ltb-false 0 (length J) none in absurd (omega (arith, nothing, some_at))
            | inr rest ↦
                elim (and_cases (nat_lt (length J) (f / 2)) (nat_lt at.nodes (length level)) rest) [
                  | inl many ↦ let enough = ltb-false (length J) (f / 2) many in absurd (omega (arith, enough, few_at))
                  | inr whole ↦ ltb-false at.nodes (length level) whole
                ]
          ] in
          subst (λ (s : Site). length level ≤ s.nodes) (sym step) all
      | inl join ↦
          let step : site_of f level from count fresh ≡ joined level at = rw (join, site_of) in
          let parts = and_parts (nat_lt 0 (length J)) (nat_lt (length J) (f / 2) && nat_lt at.nodes (length level)) join in
          let more = and_parts (nat_lt (length J) (f / 2)) (nat_lt at.nodes (length level)) parts.1 in
          let left = ltb-true at.nodes (length level) more.1 in
          let two : 2 ≤ length level = omega (arith, left, any) in
          let low = filled-low f 1 level filled two in
          let holds = touched_site-holds level from count within in
          let near = touched_site-within level from count (pairs (omega (arith, two))) within in
          let own = exchanged-length level at from count fresh holds in
          let site_holds = site_of-holds f level from count fresh within in
          let joined_holds : Holds level (joined level at) from count = subst (λ (s : Site). Holds level s from count) step site_holds in
          let all = exchanged-length level (joined level at) from count fresh joined_holds in
          let few_joined : length (exchanged level (joined level at) from count fresh) < f / 2 =
          subst (λ (s : Site). length (exchanged level s from count fresh) < f / 2) step few in
          elim (cases_Bool (nat_lt 0 at.before)) [
            | inl positive ↦
                let here = ltb-true 0 at.before positive in
                let is : joined level at ≡ record { before = at.before - 1; nodes = at.nodes + 1 } = rw (positive, joined) in
                let before_is : (joined level at).before ≡ at.before - 1 = ap (λ (s : Site). s.before) is in
                let nodes_is : (joined level at).nodes ≡ at.nodes + 1 = ap (λ (s : Site). s.nodes) is in
                let front : first_pairs level (joined level at).before ≡ first_pairs level (at.before - 1) =
                ap (first_pairs level) before_is in
                let end_is : (joined level at).before + (joined level at).nodes ≡ at.before + at.nodes =
                omega (arith, before_is, nodes_is, here) in
                let end : first_pairs level ((joined level at).before + (joined level at).nodes)
                ≡ first_pairs level (at.before + at.nodes) = ap (first_pairs level) end_is in
                let gained = first_pairs-step (f / 2) level (at.before - 1) (omega (arith, near, any, here)) low in
                let next : first_pairs level (at.before - 1 + 1) ≡ first_pairs level at.before =
                ap (first_pairs level) (omega (arith, here)) in
                absurd (omega (arith, own, all, front, end, gained, next, few_joined))
            | inr first ↦
                let none = ltb-false 0 at.before first in
                let is : joined level at ≡ record { before = 0; nodes = at.nodes + 1 } = rw (first, joined) in
                let before_is : (joined level at).before ≡ at.before = ap (λ (s : Site). s.before) is ∙ omega (arith, none) in
                let nodes_is : (joined level at).nodes ≡ at.nodes + 1 = ap (λ (s : Site). s.nodes) is in
                let front : first_pairs level (joined level at).before ≡ first_pairs level at.before = ap (first_pairs level) before_is in
                let end_is : (joined level at).before + (joined level at).nodes ≡ at.before + at.nodes + 1 =
                omega (arith, before_is, nodes_is) in
                let end : first_pairs level ((joined level at).before + (joined level at).nodes)
                ≡ first_pairs level (at.before + at.nodes + 1) = ap (first_pairs level) end_is in
                let gained = first_pairs-step (f / 2) level (at.before + at.nodes) (omega (arith, none, left)) low in
                absurd (omega (arith, own, all, front, end, gained, few_joined))
          ]
    ]

taken-none : (k : ℕ) → take {A = PageNode} k [] ≡ []
taken-none zero = refl
taken-none (suc k) = refl

-- a level after an exchange is filled
pub level-filled : (f : ℕ) (level : List PageNode) (from count : ℕ) (fresh : List Pair) (pages : List ℕ) → 4 ≤ f → AreFilled f 1 level →
    from + count ≤ length (pairs_of_level level) → (0 < length level → 0 < length (pairs_of_level level)) →
    AreFilled f 1 (level_after f level from count fresh pages).nodes
level-filled f level from count fresh pages four filled within pairs =
    let some : 0 < f = omega (arith, four) in
    let site = site_of f level from count fresh in
    let J = exchanged level site from count fresh in
    let sizes = sizes_of f (length J) in
    let made = on_pages pages (cut_into sizes J) in
    let front = take site.before level in
    let back = drop (site.before + site.nodes) level in
    let whole = sizes-total f (length J) some in
    let fits : total sizes ≤ length J = omega (arith, whole) in
    let any = site_of-some f level from count fresh in
    let near : 0 < length level → site.before + site.nodes ≤ length level =
    λ node. site_of-within f level from count fresh (pairs node) within in
    let kept = kept-low f level site filled any near in
    let high = filled-high f 1 level filled in
    let made_high : AllByRecursion (High f) made = made-sizes (λ k. k ≤ f) pages sizes J fits (sizes-high f (length J) some) in
    let made_some : AllByRecursion (Low 1) made = made-sizes (λ k. 1 ≤ k) pages sizes J fits (sizes-some f (length J) some) in
    let one_low : (xs : List PageNode) → AllByRecursion (Low (f / 2)) xs → AllByRecursion (Low 1) xs =
    all-map (λ (node : PageNode). f / 2 ≤ length node.pairs) (λ (node : PageNode). 1 ≤ length node.pairs)
    (λ node half. omega (arith, half, four)) in
    filled-from f 1 (front ++ (made ++ back))
    (all-append (High f) front (made ++ back) (all-take (High f) site.before level high)
    (all-append (High f) made back made_high (all-drop (High f) (site.before + site.nodes) level high)))
    (λ alone. all-append (Low 1) front (made ++ back) (one_low front kept.front)
    (all-append (Low 1) made back made_some (one_low back kept.back)))
    (λ many. all-append (Low (f / 2)) front (made ++ back) kept.front (all-append (Low (f / 2)) made back
    (elim (cases_lt (length J) (f / 2)) [
      | inr enough ↦ made-sizes (λ k. f / 2 ≤ k) pages sizes J fits (sizes-low f (length J) four enough)
      | inl few ↦
          elim (cases_lt 0 (length J)) [
            | inr none ↦
                let count_made = made-length pages sizes J ∙ sizes-length f (length J) some in
                let no_pair : length J ≡ 0 = omega (arith, none) in
                let no_node : nodes f (length J) ≡ 0 = ap (nodes f) no_pair ∙ count-none f some in
                go made (count_made ∙ no_node)
            | inl pair ↦
                let all = few-whole f level from count fresh four filled within pairs pair few in
                let count_made = made-length pages sizes J ∙ sizes-length f (length J) some in
                let holds : length J ≤ 1 * f = omega (arith, few) in
                let one = count-enough f (length J) 1 some holds in
                let sum = length-append front (made ++ back) in
                let sum2 = length-append made back in
                let front_long = length-take site.before level in
                let back_long = length-drop (site.before + site.nodes) level in
                let front_none : length front ≡ 0 = elim (cases_lt 0 (length level)) [
                  | inl node ↦ let bound = near node in omega (arith, front_long, bound, all)
                  | inr empty ↦ omega (arith, front_long, empty)
                ] in
                absurd (omega (arith, many, sum, sum2, front_none, back_long, count_made, one, all))
          ]
    ]) kept.back))
  where
    go : (made : List PageNode) → length made ≡ 0 → AllByRecursion (λ (node : PageNode). f / 2 ≤ length node.pairs) made
    go [] none = tt
    go (node ∷ rest) none = let some : suc (length rest) ≡ 0 = none in absurd (omega (arith, some))
