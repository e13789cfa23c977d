-- The nodes of a level that an exchange touches, and how many pairs stand there afterwards.
use Rattle.std.proofs.Common.{◌≡◌, ℕ, zero, suc, ◌+◌, ◌-◌, ◌<◌, ◌≤◌, Bool, cond, List, [], ◌∷◌, ◌++◌, length, take}
use Rattle.std.proofs.Common.{drop, sym, ap, subst, arith, ◌∙◌, inl, inr, length-append, length-take, length-drop}
use Rattle.std.proofs.Common.{nat_eq, nat_lt}
use Rattle.std.specs.List.{AllByRecursion}
use Rattle.std.proofs.lemmas.Bool.{cases_Bool, cases_lt, ltb-true, ltb-false, eqb-true, eqb-false}
use Rattle.tree_model.specs.declared.entry.Pair.{Pair}
use Rattle.layout_model.specs.Levels.{PageNode, Site, pairs_of_level, node_at, touched_site, nodes_at, exchanged, joins}
use Rattle.layout_model.specs.Levels.{joined, site_of}
use Rattle.layout_laws.proofs.LevelLemmas.{Holds, pairs-append, count-cons, take-two}
use Rattle.change_laws.proofs.SizeLemmas.{Low}

-- ---- the site

-- a later pair is in no earlier node
pub node_at-rises : (level : List PageNode) (a b : ℕ) → a ≤ b → node_at level a ≤ node_at level b
node_at-rises [] a b le = let none : 0 ≤ 0 = omega arith in none
node_at-rises (node ∷ rest) a b le =
    elim (cases_Bool (nat_lt a (length node.pairs))) [
      | inl here ↦
          let step : node_at (node ∷ rest) a ≡ 0 = rw (here, node_at) in
          omega (arith, step)
      | inr past ↦
          let step : node_at (node ∷ rest) a ≡ suc (node_at rest (a - length node.pairs)) = rw (past, node_at) in
          let behind = ltb-false a (length node.pairs) past in
          elim (cases_Bool (nat_lt b (length node.pairs))) [
            | inl near ↦ let less = ltb-true b (length node.pairs) near in absurd (omega (arith, behind, less, le))
            | inr far ↦
                let step2 : node_at (node ∷ rest) b ≡ suc (node_at rest (b - length node.pairs)) = rw (far, node_at) in
                let more = node_at-rises rest (a - length node.pairs) (b - length node.pairs) (omega (arith, le)) in
                omega (arith, step, step2, more)
          ]
    ]

choice-le : (from count : ℕ) → cond (nat_eq count 0) (from - 1) from ≤ from + count - 1
choice-le from count =
    elim (cases_Bool (nat_eq count 0)) [
      | inl none ↦
          let zero_count = eqb-true count 0 none in
          let step : cond (nat_eq count 0) (from - 1) from ≡ from - 1 = ap (λ (b : Bool). cond b (from - 1) from) none in
          omega (arith, step, zero_count)
      | inr some ↦
          let one = eqb-false count 0 some in
          let step : cond (nat_eq count 0) (from - 1) from ≡ from = ap (λ (b : Bool). cond b (from - 1) from) some in
          elim (cases_lt 0 count) [
            | inl any ↦ omega (arith, step, any)
            | inr zero_count ↦ absurd (one (omega (arith, zero_count)))
          ]
    ]

-- some node is touched
pub touched_site-some : (level : List PageNode) (from count : ℕ) → 1 ≤ (touched_site level from count).nodes
touched_site-some level from count =
    let at = cond (nat_eq count 0) (from - 1) from in
    let rises = node_at-rises level at (from + count - 1) (choice-le from count) in
    let some : 1 ≤ suc (node_at level (from + count - 1)) - node_at level at = omega (arith, rises) in
    some

joined-nodes : (level : List PageNode) (site : Site) → (joined level site).nodes ≡ site.nodes + 1
joined-nodes level site =
    elim (cases_Bool (nat_lt 0 site.before)) [
      | inl some ↦
          let step : joined level site ≡ record { before = site.before - 1; nodes = site.nodes + 1 } = rw (some, joined) in
          ap (λ (s : Site). s.nodes) step
      | inr none ↦
          let step : joined level site ≡ record { before = 0; nodes = site.nodes + 1 } = rw (none, joined) in
          ap (λ (s : Site). s.nodes) step
    ]

pub site_of-some : (f : ℕ) (level : List PageNode) (from count : ℕ) (fresh : List Pair) → 1 ≤ (site_of f level from count fresh).nodes
site_of-some f level from count fresh =
    let at = touched_site level from count in
    let some = touched_site-some level from count in
    elim (cases_Bool (joins f level at (length (exchanged level at from count fresh)))) [
      | inl join ↦
          let step : site_of f level from count fresh ≡ joined level at = rw (join, site_of) in
          let same = ap (λ (s : Site). s.nodes) step in
          let more = joined-nodes level at in
          omega (arith, same, more, some)
      | inr alone ↦
          let step : site_of f level from count fresh ≡ at = rw (alone, site_of) in
          let same = ap (λ (s : Site). s.nodes) step in
          omega (arith, same, some)
    ]

-- the pairs of the first k nodes, counted
abbrev pub first_pairs : List PageNode → ℕ → ℕ
first_pairs level k = length (pairs_of_level (take k level))

-- how many pairs the exchange leaves
pub exchanged-length : (level : List PageNode) (site : Site) (from count : ℕ) (fresh : List Pair) → Holds level site from count →
    length (exchanged level site from count fresh) + count + first_pairs level site.before
    ≡ length fresh + first_pairs level (site.before + site.nodes)
exchanged-length level site from count fresh holds =
    let inside = nodes_at level site in
    let skipped = from - first_pairs level site.before in
    let two : first_pairs level (site.before + site.nodes) ≡ first_pairs level site.before + length (pairs_of_level inside) =
    ap (λ (xs : List PageNode). length (pairs_of_level xs)) (sym (take-two site.before site.nodes level))
    ∙ (ap length (pairs-append (take site.before level) inside)
    ∙ length-append (pairs_of_level (take site.before level)) (pairs_of_level inside)) in
    let low = holds.low in
    let high = holds.high in
    let one = length-append (take skipped (pairs_of_level inside)) (fresh ++ drop (skipped + count) (pairs_of_level inside)) in
    let rest = length-append fresh (drop (skipped + count) (pairs_of_level inside)) in
    let left = length-take skipped (pairs_of_level inside) in
    let right = length-drop (skipped + count) (pairs_of_level inside) in
    omega (arith, two, low, high, one, rest, left, right)

-- one node more has its pairs more
pub first_pairs-step : (least : ℕ) (level : List PageNode) (k : ℕ) → k < length level →
    AllByRecursion (Low least) level → first_pairs level k + least ≤ first_pairs level (k + 1)
first_pairs-step least [] k within low = let none : k < 0 = within in absurd (omega (arith, none))
first_pairs-step least (node ∷ rest) zero within low =
    let one : first_pairs (node ∷ rest) 1 ≡ length node.pairs + 0 = count-cons node [] in
    let here = low.0 in
    let goal : 0 + least ≤ first_pairs (node ∷ rest) 1 = omega (arith, one, here) in
    let at : 1 ≡ zero + 1 = omega arith in
    subst (λ (k : ℕ). 0 + least ≤ first_pairs (node ∷ rest) k) at goal
first_pairs-step least (node ∷ rest) (suc k) within low =
    let long : suc k < suc (length rest) = within in
    let more = first_pairs-step least rest k (omega (arith, long)) low.1 in
    let one = count-cons node (take k rest) in
    let two = count-cons node (take (k + 1) rest) in
    let goal : first_pairs (node ∷ rest) (suc k) + least ≤ first_pairs (node ∷ rest) (suc (k + 1)) = omega (arith, more, one, two) in
    let at : suc (k + 1) ≡ suc k + 1 = omega arith in
    subst (λ (j : ℕ). first_pairs (node ∷ rest) (suc k) + least ≤ first_pairs (node ∷ rest) j) at goal
