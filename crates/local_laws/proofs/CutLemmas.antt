-- A level after an exchange is its run after it, with the nodes before and behind it as they were.
use Rattle.std.proofs.Common.{◌≡◌, ℕ, suc, ◌+◌, ◌-◌, ◌/◌, ◌<◌, ◌≤◌, Bool, true, false, ◌&&◌, cond, List, [], ◌∷◌}
use Rattle.std.proofs.Common.{◌++◌, length, take, drop, refl, sym, ap, arith, ◌∙◌, ◌⊎◌, inl, inr, append_assoc}
use Rattle.std.proofs.Common.{length-append, length-drop, nat_eq, nat_lt}
use Rattle.std.proofs.Math.Seq.{take-append-add, drop-append-add}
use Rattle.std.proofs.lemmas.Bool.{cases_Bool, ltb-true, ltb-false, lt-ltb, eqb-true}
use Rattle.std.proofs.lemmas.Bool.Decides.{nat_tests}
use Rattle.std.proofs.lemmas.List.{take-append-le, drop-append-le}
use Rattle.tree_model.specs.declared.entry.Pair.{Pair}
use Rattle.layout_model.specs.Levels.{PageNode, NewLevel, Site, pairs_of_level, node_at, touched_site, nodes_at}
use Rattle.layout_model.specs.Levels.{exchanged, joins, joined, site_of, sizes_of, cut_into, on_pages, level_with}
use Rattle.layout_model.specs.Levels.{level_after}
use Rattle.layout_laws.proofs.LevelLemmas.{pairs-append, count-cons}
use Rattle.layout_laws.proofs.NamingLemmas.{touched_site-within, site_of-within}
use Rattle.local_laws.specs.Cut.{Cut, whole, widened, first_deciding, number_in_run, touched_in_run, IsEnough}

-- how many pairs these nodes have
abbrev pub pairs_in : List PageNode → ℕ
pairs_in nodes = length (pairs_of_level nodes)

pub pairs_in-append : (xs ys : List PageNode) → pairs_in (xs ++ ys) ≡ pairs_in xs + pairs_in ys
pairs_in-append xs ys = ap length (pairs-append xs ys) ∙ length-append (pairs_of_level xs) (pairs_of_level ys)

-- ---- which node has a pair

-- a pair behind some nodes is a pair of those after them
pub node_at-behind : (front rest : List PageNode) (at : ℕ) → pairs_in front ≤ at →
    node_at (front ++ rest) at ≡ length front + node_at rest (at - pairs_in front)
node_at-behind [] rest at past =
    let none : at ≡ at - 0 = omega arith in
    let goal : node_at rest at ≡ 0 + node_at rest (at - 0) = omega (arith, ap (node_at rest) none) in
    goal
node_at-behind (node ∷ front) rest at past =
    let count = count-cons node front in
    let here : nat_lt at (length node.pairs) ≡ false =
    let far : length node.pairs ≤ at = omega (arith, count, past) in grind (arith, nat_tests) in
    let step : node_at (node ∷ (front ++ rest)) at ≡ suc (node_at (front ++ rest) (at - length node.pairs)) = rw (here, node_at) in
    let more = node_at-behind front rest (at - length node.pairs) (omega (arith, count, past)) in
    let left : at - length node.pairs - pairs_in front ≡ at - pairs_in (node ∷ front) = omega (arith, count) in
    let there = ap (node_at rest) left in
    let all : node_at (node ∷ (front ++ rest)) at ≡ suc (length front) + node_at rest (at - pairs_in (node ∷ front)) =
    omega (arith, step, more, there) in
    all

-- a pair of some nodes is none of those after them
pub node_at-before : (run back : List PageNode) (at : ℕ) → at < pairs_in run → node_at (run ++ back) at ≡ node_at run at
node_at-before [] back at inside = let none : at < 0 = inside in absurd (omega (arith, none))
node_at-before (node ∷ run) back at inside =
    elim (cases_Bool (nat_lt at (length node.pairs))) [
      | inl here ↦
          let long : node_at (node ∷ (run ++ back)) at ≡ 0 = rw (here, node_at) in
          let short : node_at (node ∷ run) at ≡ 0 = rw (here, node_at) in
          long ∙ sym short
      | inr past ↦
          let long : node_at (node ∷ (run ++ back)) at ≡ suc (node_at (run ++ back) (at - length node.pairs)) = rw (past, node_at) in
          let short : node_at (node ∷ run) at ≡ suc (node_at run (at - length node.pairs)) = rw (past, node_at) in
          let behind = ltb-false at (length node.pairs) past in
          let count = count-cons node run in
          let more = node_at-before run back (at - length node.pairs) (omega (arith, count, inside, behind)) in
          long ∙ (ap suc more ∙ sym short)
    ]

-- a pair of the run is a pair of the level
pub node_at-run : (cut : Cut) (at : ℕ) → pairs_in cut.front ≤ at → at < pairs_in cut.front + pairs_in cut.run →
    node_at (whole cut) at ≡ length cut.front + node_at cut.run (at - pairs_in cut.front)
node_at-run cut at low high =
    node_at-behind cut.front (cut.run ++ cut.back) at low
    ∙ ap (λ (k : ℕ). length cut.front + k) (node_at-before cut.run cut.back (at - pairs_in cut.front) (omega (arith, low, high)))

-- ---- a site of the run

-- a site of the run, counted in the level
abbrev pub shifted : Cut → Site → Site
shifted cut site = record { before = length cut.front + site.before; nodes = site.nodes }

-- the nodes of a site are nodes of the run
abbrev pub IsInRun : Cut → Site → Type 0
IsInRun cut site = site.before + site.nodes ≤ length cut.run

pub take-run : (cut : Cut) (k : ℕ) → k ≤ length cut.run → take (length cut.front + k) (whole cut) ≡ cut.front ++ take k cut.run
take-run cut k within =
    take-append-add cut.front (cut.run ++ cut.back) k
    ∙ ap (λ (xs : List PageNode). cut.front ++ xs) (take-append-le k cut.run cut.back within)

pub drop-run : (cut : Cut) (k : ℕ) → k ≤ length cut.run → drop (length cut.front + k) (whole cut) ≡ drop k cut.run ++ cut.back
drop-run cut k within = drop-append-add cut.front (cut.run ++ cut.back) k ∙ drop-append-le k cut.run cut.back within

pub nodes_at-run : (cut : Cut) (site : Site) → IsInRun cut site → nodes_at (whole cut) (shifted cut site) ≡ nodes_at cut.run site
nodes_at-run cut site within =
    let near : site.before ≤ length cut.run = omega (arith, within) in
    let long = length-drop site.before cut.run in
    let fits : site.nodes ≤ length (drop site.before cut.run) = omega (arith, within, long) in
    ap (take site.nodes) (drop-run cut site.before near) ∙ take-append-le site.nodes (drop site.before cut.run) cut.back fits

-- the exchange at a site of the run
pub exchanged-run : (cut : Cut) (site : Site) (from count : ℕ) (fresh : List Pair) → IsInRun cut site →
    exchanged (whole cut) (shifted cut site) from count fresh ≡ exchanged cut.run site (number_in_run cut from) count fresh
exchanged-run cut site from count fresh within =
    let near : site.before ≤ length cut.run = omega (arith, within) in
    let before : pairs_in (take (length cut.front + site.before) (whole cut)) ≡ pairs_in cut.front + pairs_in (take site.before cut.run) =
    ap pairs_in (take-run cut site.before near) ∙ pairs_in-append cut.front (take site.before cut.run) in
    let skipped : from - pairs_in (take (length cut.front + site.before) (whole cut))
    ≡ number_in_run cut from - pairs_in (take site.before cut.run) =
    omega (arith, before) in
    let nodes = nodes_at-run cut site within in
    ap (λ (k : ℕ). take k (pairs_of_level (nodes_at (whole cut) (shifted cut site)))
    ++ (fresh ++ drop (k + count) (pairs_of_level (nodes_at (whole cut) (shifted cut site))))) skipped
    ∙ ap (λ (xs : List PageNode). take (number_in_run cut from - pairs_in (take site.before cut.run)) (pairs_of_level xs)
    ++ (fresh ++ drop (number_in_run cut from - pairs_in (take site.before cut.run) + count) (pairs_of_level xs))) nodes

-- the level with a site of the run exchanged
pub level_with-run : (cut : Cut) (site : Site) (made : List PageNode) → IsInRun cut site →
    level_with (whole cut) (shifted cut site) made ≡ widened cut (level_with cut.run site made)
level_with-run cut site made within =
    let near : site.before ≤ length cut.run = omega (arith, within) in
    let front = take-run cut site.before near in
    let end : length cut.front + site.before + site.nodes ≡ length cut.front + (site.before + site.nodes) = omega arith in
    let back = ap (λ (k : ℕ). drop k (whole cut)) end ∙ drop-run cut (site.before + site.nodes) within in
    let assoc : (cut.front ++ take site.before cut.run) ++ (made ++ (drop (site.before + site.nodes) cut.run ++ cut.back))
    ≡ cut.front ++ ((take site.before cut.run ++ (made ++ drop (site.before + site.nodes) cut.run)) ++ cut.back) = simp append_assoc in
    let nodes = ap (λ (xs : List PageNode). xs ++ (made ++ drop (length cut.front + site.before + site.nodes) (whole cut))) front
    ∙ (ap (λ (xs : List PageNode). (cut.front ++ take site.before cut.run) ++ (made ++ xs)) back ∙ assoc) in
    ap with_nodes nodes
  where
    with_nodes : List PageNode → NewLevel
    with_nodes nodes = record { nodes = nodes; from = length cut.front + site.before; count = site.nodes; made = made }

-- ---- the touched nodes

choice-low : (from count : ℕ) → first_deciding from count ≤ from + count - 1
choice-low from count =
    elim (cases_Bool (nat_eq count 0)) [
      | inl none ↦
          let nothing = eqb-true count 0 none in
          let step : first_deciding from count ≡ from - 1 = ap (λ (b : Bool). cond b (from - 1) from) none in
          omega (arith, step, nothing)
      | inr some ↦
          let step : first_deciding from count ≡ from = ap (λ (b : Bool). cond b (from - 1) from) some in
          let any : 0 < count = grind (arith, nat_tests, some) in
          omega (arith, step, any)
    ]

-- the numbers of the deciding pairs in the run
choice-run : (from count passed : ℕ) → passed ≤ first_deciding from count →
    (first_deciding from count - passed ≡ first_deciding (from - passed) count) × (from + count - 1 - passed ≡ from - passed + count - 1)
choice-run from count passed low =
    elim (cases_Bool (nat_eq count 0)) [
      | inl none ↦
          let nothing = eqb-true count 0 none in
          let step : first_deciding from count ≡ from - 1 = ap (λ (b : Bool). cond b (from - 1) from) none in
          let step2 : first_deciding (from - passed) count ≡ from - passed - 1 =
          ap (λ (b : Bool). cond b (from - passed - 1) (from - passed)) none in
          (omega (arith, step, step2), omega (arith, nothing))
      | inr some ↦
          let step : first_deciding from count ≡ from = ap (λ (b : Bool). cond b (from - 1) from) some in
          let step2 : first_deciding (from - passed) count ≡ from - passed =
          ap (λ (b : Bool). cond b (from - passed - 1) (from - passed)) some in
          (omega (arith, step, step2), omega (arith, step, low))
    ]

-- the run has the deciding pairs
pub record HasDeciding (cut : Cut) (from count : ℕ) : Type 0 where
  pub low : pairs_in cut.front ≤ first_deciding from count
  pub high : from + count - 1 < pairs_in cut.front + pairs_in cut.run

-- so it has a pair, and the replaced ones
pub deciding-some : (cut : Cut) (from count : ℕ) → HasDeciding cut from count →
    (0 < pairs_in cut.run) × (number_in_run cut from + count ≤ pairs_in cut.run)
deciding-some cut from count has =
    let low = has.low in
    let high = has.high in
    let order = choice-low from count in
    let numbers = choice-run from count (pairs_in cut.front) low in
    let last = numbers.1 in
    (omega (arith, low, high, order), omega (arith, low, high, order, last))

-- the touched nodes of the level are those of the run
pub touched-run : (cut : Cut) (from count : ℕ) → HasDeciding cut from count →
    touched_site (whole cut) from count ≡ shifted cut (touched_in_run cut from count)
touched-run cut from count has =
    let low = has.low in
    let high = has.high in
    let order = choice-low from count in
    let numbers = choice-run from count (pairs_in cut.front) low in
    let passed = pairs_in cut.front in
    let first : node_at (whole cut) (first_deciding from count)
    ≡ length cut.front + node_at cut.run (first_deciding (from - passed) count) =
    node_at-run cut (first_deciding from count) low (omega (arith, high, order))
    ∙ ap (λ (k : ℕ). length cut.front + node_at cut.run k) numbers.0 in
    let last : node_at (whole cut) (from + count - 1) ≡ length cut.front + node_at cut.run (from - passed + count - 1) =
    node_at-run cut (from + count - 1) (omega (arith, low, order)) high ∙ ap (λ (k : ℕ). length cut.front + node_at cut.run k) numbers.1 in
    let nodes : suc (node_at (whole cut) (from + count - 1)) - node_at (whole cut) (first_deciding from count)
    ≡ suc (node_at cut.run (from - passed + count - 1)) - node_at cut.run (first_deciding (from - passed) count) =
    omega (arith, first, last) in
    ap (λ (k : ℕ). site k (suc (node_at (whole cut) (from + count - 1)) - node_at (whole cut) (first_deciding from count))) first
    ∙ ap (site (length cut.front + node_at cut.run (first_deciding (from - passed) count))) nodes
  where
    site : ℕ → ℕ → Site
    site before nodes = record { before = before; nodes = nodes }

pub touched-in_run : (cut : Cut) (from count : ℕ) → HasDeciding cut from count → IsInRun cut (touched_in_run cut from count)
touched-in_run cut from count has =
    let some = deciding-some cut from count has in
    touched_site-within cut.run (number_in_run cut from) count some.0 some.1

-- ---- the node that joins

pub whole-length : (cut : Cut) → length (whole cut) ≡ length cut.front + (length cut.run + length cut.back)
whole-length cut = length-append cut.front (cut.run ++ cut.back) ∙ ap (λ (k : ℕ). length cut.front + k) (length-append cut.run cut.back)

joined-run : (cut : Cut) (site : Site) → (0 < site.before) ⊎ (length cut.front ≡ 0) →
    joined (whole cut) (shifted cut site) ≡ shifted cut (joined cut.run site)
joined-run cut site place =
    elim (cases_Bool (nat_lt 0 site.before)) [
      | inl some ↦
          let any = ltb-true 0 site.before some in
          let long : nat_lt 0 (length cut.front + site.before) ≡ true = lt-ltb 0 (length cut.front + site.before) (omega (arith, any)) in
          let step : joined (whole cut) (shifted cut site)
          ≡ record { before = length cut.front + site.before - 1; nodes = site.nodes + 1 } = rw (long, joined) in
          let step2 : joined cut.run site ≡ record { before = site.before - 1; nodes = site.nodes + 1 } = rw (some, joined) in
          let same : length cut.front + site.before - 1 ≡ length cut.front + (site.before - 1) = omega (arith, any) in
          step ∙ (ap (λ (k : ℕ). wide k) same ∙ sym (ap (shifted cut) step2))
      | inr none ↦
          let nothing = ltb-false 0 site.before none in
          let empty : length cut.front ≡ 0 = elim place [ inl any ↦ absurd (omega (arith, any, nothing)) | inr first ↦ first ] in
          let zero_before : length cut.front + site.before ≡ 0 = omega (arith, nothing, empty) in
          let long : nat_lt 0 (length cut.front + site.before) ≡ false = ap (nat_lt 0) zero_before in
          let step : joined (whole cut) (shifted cut site) ≡ record { before = 0; nodes = site.nodes + 1 } = rw (long, joined) in
          let step2 : joined cut.run site ≡ record { before = 0; nodes = site.nodes + 1 } = rw (none, joined) in
          let same : 0 ≡ length cut.front + 0 = omega (arith, empty) in
          step ∙ (ap (λ (k : ℕ). wide k) same ∙ sym (ap (shifted cut) step2))
    ]
  where
    wide : ℕ → Site
    wide before = record { before = before; nodes = site.nodes + 1 }

-- the nodes that are made anew in the level are those of the run
pub site-run : (f : ℕ) (cut : Cut) (from count : ℕ) (fresh : List Pair) → IsEnough f cut from count fresh →
    site_of f (whole cut) from count fresh ≡ shifted cut (site_of f cut.run (number_in_run cut from) count fresh)
site-run f cut from count fresh enough =
    let has : HasDeciding cut from count = record { low = enough.starts; high = enough.ends } in
    let t = touched_in_run cut from count in
    let J = exchanged cut.run t (number_in_run cut from) count fresh in
    let near = touched-in_run cut from count has in
    let site_is = touched-run cut from count has in
    let J_is : exchanged (whole cut) (shifted cut t) from count fresh ≡ J = exchanged-run cut t from count fresh near in
    let choose : Site → Site =
    λ at. cond (joins f (whole cut) at (length (exchanged (whole cut) at from count fresh))) (joined (whole cut) at) at in
    let choose_at : ℕ → Site = λ k. cond (joins f (whole cut) (shifted cut t) k) (joined (whole cut) (shifted cut t)) (shifted cut t) in
    let begin : site_of f (whole cut) from count fresh ≡ choose_at (length J) =
    ap choose site_is ∙ ap (λ (xs : List Pair). choose_at (length xs)) J_is in
    let long = whole-length cut in
    elim (cases_Bool (nat_lt 0 (length J))) [
      | inr none ↦
          let wide : joins f (whole cut) (shifted cut t) (length J) ≡ false =
          ap (λ (b : Bool). b && (nat_lt (length J) (f / 2) && nat_lt t.nodes (length (whole cut)))) none in
          let own : joins f cut.run t (length J) ≡ false =
          ap (λ (b : Bool). b && (nat_lt (length J) (f / 2) && nat_lt t.nodes (length cut.run))) none in
          begin ∙ (alone wide ∙ sym (ap (shifted cut) (own_alone own)))
      | inl some ↦
          elim (cases_Bool (nat_lt (length J) (f / 2))) [
            | inr many ↦
                let wide : joins f (whole cut) (shifted cut t) (length J) ≡ false =
                both-false (nat_lt 0 (length J)) (nat_lt (length J) (f / 2)) (nat_lt t.nodes (length (whole cut))) many in
                let own : joins f cut.run t (length J) ≡ false =
                both-false (nat_lt 0 (length J)) (nat_lt (length J) (f / 2)) (nat_lt t.nodes (length cut.run)) many in
                begin ∙ (alone wide ∙ sym (ap (shifted cut) (own_alone own)))
            | inl few ↦
                let beside = enough.beside (ltb-true 0 (length J) some) (ltb-true (length J) (f / 2) few) in
                let place : (0 < t.before) ⊎ (length cut.front ≡ 0) = elim beside [ inl any ↦ inl any | inr first ↦ inr first.0 ] in
                elim (cases_Bool (nat_lt t.nodes (length cut.run))) [
                  | inl more ↦
                      let less = ltb-true t.nodes (length cut.run) more in
                      let more_wide : nat_lt t.nodes (length (whole cut)) ≡ true =
                      lt-ltb t.nodes (length (whole cut)) (omega (arith, less, long)) in
                      let wide : joins f (whole cut) (shifted cut t) (length J) ≡ true =
                      all-true (nat_lt 0 (length J)) (nat_lt (length J) (f / 2)) (nat_lt t.nodes (length (whole cut))) some few more_wide in
                      let own : joins f cut.run t (length J) ≡ true =
                      all-true (nat_lt 0 (length J)) (nat_lt (length J) (f / 2)) (nat_lt t.nodes (length cut.run)) some few more in
                      begin ∙ (with wide ∙ (joined-run cut t place ∙ sym (ap (shifted cut) (own_with own))))
                  | inr full ↦
                      let all = ltb-false t.nodes (length cut.run) full in
                      let no_other : length cut.front + length cut.back ≡ 0 = elim beside [
                        | inl any ↦ absurd (omega (arith, any, near, all))
                        | inr first ↦ elim first.1 [
                          | inl last ↦ let empty = first.0 in omega (arith, empty, last)
                          | inr less ↦ absurd (omega (arith, less, all))
                        ]
                      ] in
                      let full_wide : nat_lt t.nodes (length (whole cut)) ≡ false =
                      ap (nat_lt t.nodes) (let same : length (whole cut) ≡ length cut.run = omega (arith, long, no_other) in same) ∙ full in
                      let wide : joins f (whole cut) (shifted cut t) (length J) ≡ false =
                      last-false (nat_lt 0 (length J)) (nat_lt (length J) (f / 2)) (nat_lt t.nodes (length (whole cut))) full_wide in
                      let own : joins f cut.run t (length J) ≡ false =
                      last-false (nat_lt 0 (length J)) (nat_lt (length J) (f / 2)) (nat_lt t.nodes (length cut.run)) full in
                      begin ∙ (alone wide ∙ sym (ap (shifted cut) (own_alone own)))
                ]
          ]
    ]
  where
    t : Site
    t = touched_in_run cut from count

    J : List Pair
    J = exchanged cut.run (touched_in_run cut from count) (number_in_run cut from) count fresh

    both-false : (a b c : Bool) → b ≡ false → (a && (b && c)) ≡ false
    both-false true b c off = ap (λ (x : Bool). x && c) off
    both-false false b c off = refl

    last-false : (a b c : Bool) → c ≡ false → (a && (b && c)) ≡ false
    last-false true true c off = off
    last-false true false c off = refl
    last-false false b c off = refl

    all-true : (a b c : Bool) → a ≡ true → b ≡ true → c ≡ true → (a && (b && c)) ≡ true
    all-true true true c a b c_is = c_is
    all-true true false c a b c_is = b
    all-true false b c a b_is c_is = a

    alone : joins f (whole cut) (shifted cut t) (length J) ≡ false →
        cond (joins f (whole cut) (shifted cut t) (length J)) (joined (whole cut) (shifted cut t)) (shifted cut t) ≡ shifted cut t
    alone off = ap (λ (b : Bool). cond b (joined (whole cut) (shifted cut t)) (shifted cut t)) off

    with : joins f (whole cut) (shifted cut t) (length J) ≡ true →
        cond (joins f (whole cut) (shifted cut t) (length J)) (joined (whole cut) (shifted cut t)) (shifted cut t)
        ≡ joined (whole cut) (shifted cut t)
    with on = ap (λ (b : Bool). cond b (joined (whole cut) (shifted cut t)) (shifted cut t)) on

    own_alone : joins f cut.run t (length J) ≡ false → site_of f cut.run (number_in_run cut from) count fresh ≡ t
    own_alone off = ap (λ (b : Bool). cond b (joined cut.run t) t) off

    own_with : joins f cut.run t (length J) ≡ true → site_of f cut.run (number_in_run cut from) count fresh ≡ joined cut.run t
    own_with on = ap (λ (b : Bool). cond b (joined cut.run t) t) on

-- ---- the level

-- a level after an exchange is the run after it, with the nodes before and behind it as they were
pub level-local : (f : ℕ) (cut : Cut) (from count : ℕ) (fresh : List Pair) (pages : List ℕ) → IsEnough f cut from count fresh →
    level_after f (whole cut) from count fresh pages ≡ widened cut (level_after f cut.run (number_in_run cut from) count fresh pages)
level-local f cut from count fresh pages enough =
    let has : HasDeciding cut from count = record { low = enough.starts; high = enough.ends } in
    let some = deciding-some cut from count has in
    let site = site_of f cut.run (number_in_run cut from) count fresh in
    let within : IsInRun cut site = site_of-within f cut.run (number_in_run cut from) count fresh some.0 some.1 in
    let J = exchanged cut.run site (number_in_run cut from) count fresh in
    let made : List Pair → List PageNode = λ xs. on_pages pages (cut_into (sizes_of f (length xs)) xs) in
    ap (λ (at : Site). level_with (whole cut) at (made (exchanged (whole cut) at from count fresh)))
    (site-run f cut from count fresh enough)
    ∙ (ap (λ (xs : List Pair). level_with (whole cut) (shifted cut site) (made xs)) (exchanged-run cut site from count fresh within)
    ∙ level_with-run cut site (made J) within)
