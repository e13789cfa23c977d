-- Pairs by their bytes: how many end before a place in two rows of pairs, and which node has the first that doesn't.
use Rattle.std.proofs.Common.{◌≡◌, ℕ, zero, suc, ◌+◌, ◌-◌, ◌<◌, ◌≤◌, true, false, List, [], ◌∷◌, ◌++◌, length, map, take}
use Rattle.std.proofs.Common.{refl, sym, ap, arith, ◌∙◌, inl, inr, nat_le, nat_lt}
use Rattle.std.specs.List.{AllByRecursion}
use Rattle.std.proofs.lemmas.Bool.{cases_Bool, le-leb, leb-true, leb-false, lt-leb, ltb-true, ltb-false}
use Rattle.std.proofs.lemmas.List.Sums.{sum_by-cons}
use Rattle.content_laws.specs.Spelling.{HaveBytes}
use Rattle.content_laws.proofs.SideLemmas.{count_ended-behind, count_ended-within}
use Rattle.layout_laws.proofs.LevelLemmas.{count-cons, pairs-cons}
use Rattle.layout_model.specs.Levels.{PageNode, node_at, pair_of, pairs_of_level}
use Rattle.layout_model.specs.Parts.{count_ended}
use Rattle.tree_model.specs.declared.entry.Pair.{Pair}
use Rattle.tree_model.specs.Tree.{bytes_of}

-- a place before the end lies in a pair
pub ended-few : (at : ℕ) (ps : List Pair) → at < bytes_of ps → count_ended at ps < length ps
ended-few at [] less = let none : at < 0 = less in absurd (omega (arith, none))
ended-few at (p ∷ ps) less =
    let sum = sum_by-cons (λ (q : Pair). q.bytes) p ps in
    let long : length (p ∷ ps) ≡ suc (length ps) = refl in
    elim (cases_Bool (nat_le p.bytes at)) [
      | inl h ↦
          let behind = leb-true p.bytes at h in
          let step = count_ended-behind at p ps h in
          let more = ended-few (at - p.bytes) ps (omega (arith, sum, less, behind)) in
          omega (arith, step, more, long)
      | inr h ↦ let none = count_ended-within at p ps h in omega (arith, none, long)
    ]

-- no fewer end before a later place
pub ended-rises : (at to : ℕ) (ps : List Pair) → at ≤ to → count_ended at ps ≤ count_ended to ps
ended-rises at to [] order = let none : 0 ≤ 0 = omega arith in none
ended-rises at to (p ∷ ps) order = elim (cases_Bool (nat_le p.bytes at)) [
  | inl h ↦
      let behind = leb-true p.bytes at h in
      let step = count_ended-behind at p ps h in
      let step2 = count_ended-behind to p ps (le-leb p.bytes to (omega (arith, behind, order))) in
      let more = ended-rises (at - p.bytes) (to - p.bytes) ps (omega (arith, order)) in
      omega (arith, step, step2, more)
  | inr h ↦ let none = count_ended-within at p ps h in omega (arith, none)
]

-- in two rows, where the place lies in the first
pub ended-front : (at : ℕ) (xs ys : List Pair) → at < bytes_of xs → count_ended at (xs ++ ys) ≡ count_ended at xs
ended-front at [] ys less = let none : at < 0 = less in absurd (omega (arith, none))
ended-front at (p ∷ xs) ys less =
    let sum = sum_by-cons (λ (q : Pair). q.bytes) p xs in
    elim (cases_Bool (nat_le p.bytes at)) [
      | inl h ↦
          let behind = leb-true p.bytes at h in
          count_ended-behind at p (xs ++ ys) h
          ∙ (ap suc (ended-front (at - p.bytes) xs ys (omega (arith, sum, less, behind))) ∙ sym (count_ended-behind at p xs h))
      | inr h ↦ count_ended-within at p (xs ++ ys) h ∙ sym (count_ended-within at p xs h)
    ]

-- and where it lies behind the first
pub ended-past : (at : ℕ) (xs ys : List Pair) → bytes_of xs ≤ at → count_ended at (xs ++ ys) ≡ length xs + count_ended (at - bytes_of xs) ys
ended-past at [] ys past =
    let none : at ≡ at - 0 = omega arith in
    let same = ap (λ (n : ℕ). count_ended n ys) none in
    let goal : count_ended at ys ≡ 0 + count_ended (at - 0) ys = omega (arith, same) in
    goal
ended-past at (p ∷ xs) ys past =
    let sum = sum_by-cons (λ (q : Pair). q.bytes) p xs in
    let long : length (p ∷ xs) ≡ suc (length xs) = refl in
    let step = count_ended-behind at p (xs ++ ys) (le-leb p.bytes at (omega (arith, sum, past))) in
    let more = ended-past (at - p.bytes) xs ys (omega (arith, sum, past)) in
    let far : at - p.bytes - bytes_of xs ≡ at - bytes_of (p ∷ xs) = omega (arith, sum) in
    let same = ap (λ (n : ℕ). count_ended n ys) far in
    omega (arith, step, more, same, long)

-- where fewer than the first row end, only the first row is met
pub ended-only : (at : ℕ) (xs ys : List Pair) → count_ended at (xs ++ ys) < length xs → count_ended at xs ≡ count_ended at (xs ++ ys)
ended-only at [] ys few = let none : count_ended at ys < 0 = few in absurd (omega (arith, none))
ended-only at (p ∷ xs) ys few =
    let long : length (p ∷ xs) ≡ suc (length xs) = refl in
    elim (cases_Bool (nat_le p.bytes at)) [
      | inl h ↦
          let step = count_ended-behind at p (xs ++ ys) h in
          count_ended-behind at p xs h ∙ (ap suc (ended-only (at - p.bytes) xs ys (omega (arith, few, step, long))) ∙ sym step)
      | inr h ↦ count_ended-within at p xs h ∙ sym (count_ended-within at p (xs ++ ys) h)
    ]

-- just before the end of pair number m lies pair number m
pub ended-last : (m : ℕ) (ps : List Pair) → HaveBytes ps → m < length ps → count_ended (bytes_of (take (suc m) ps) - 1) ps ≡ m
ended-last m [] have inside = let none : m < 0 = inside in absurd (omega (arith, none))
ended-last zero (p ∷ ps) have inside =
    let sum = sum_by-cons (λ (q : Pair). q.bytes) p [] in
    let one = have.0 in
    let at = bytes_of (take 1 (p ∷ ps)) - 1 in
    let less : at < p.bytes = omega (arith, sum, one) in
    count_ended-within at p ps (lt-leb p.bytes at less)
ended-last (suc m) (p ∷ ps) have inside =
    let long : suc m < suc (length ps) = inside in
    let sum = sum_by-cons (λ (q : Pair). q.bytes) p (take (suc m) ps) in
    let some = first-some (suc m) ps have.1 (omega (arith, long)) in
    let at = bytes_of (take (suc (suc m)) (p ∷ ps)) - 1 in
    let past : p.bytes ≤ at = omega (arith, sum, some) in
    let left : at - p.bytes ≡ bytes_of (take (suc m) ps) - 1 = omega (arith, sum, some) in
    count_ended-behind at p ps (le-leb p.bytes at past)
    ∙ ap suc (ap (λ (n : ℕ). count_ended n ps) left ∙ ended-last m ps have.1 (omega (arith, long)))
  where
    first-some : (k : ℕ) (qs : List Pair) → HaveBytes qs → k ≤ length qs → 1 ≤ k → 1 ≤ bytes_of (take k qs)
    first-some zero qs all fits some = absurd (omega (arith, some))
    first-some (suc k) [] all fits some = let none : suc k ≤ 0 = fits in absurd (omega (arith, none))
    first-some (suc k) (q ∷ qs) all fits some =
        let total = sum_by-cons (λ (x : Pair). x.bytes) q (take k qs) in
        let one = all.0 in
        omega (arith, total, one)

-- the node that has the pair at a place is the one that has the place
pub node_at-ended : (nodes : List PageNode) (at : ℕ) →
    node_at nodes (count_ended at (pairs_of_level nodes)) ≡ count_ended at (map pair_of nodes)
node_at-ended [] at = refl
node_at-ended (node ∷ rest) at =
    let listed = ap (count_ended at) (pairs-cons node rest) in
    elim (cases_Bool (nat_le (bytes_of node.pairs) at)) [
      | inl h ↦
          let past = leb-true (bytes_of node.pairs) at h in
          let n = count_ended (at - bytes_of node.pairs) (pairs_of_level rest) in
          let number : count_ended at (pairs_of_level (node ∷ rest)) ≡ length node.pairs + n =
          listed ∙ ended-past at node.pairs (pairs_of_level rest) past in
          let far : nat_lt (length node.pairs + n) (length node.pairs) ≡ false = not-less (length node.pairs) n in
          let step : node_at (node ∷ rest) (length node.pairs + n) ≡ suc (node_at rest (length node.pairs + n - length node.pairs)) =
          rw (far, node_at) in
          let left : length node.pairs + n - length node.pairs ≡ n = omega arith in
          ap (node_at (node ∷ rest)) number
          ∙ (step ∙ (ap suc (ap (node_at rest) left ∙ node_at-ended rest (at - bytes_of node.pairs))
          ∙ sym (count_ended-behind at (pair_of node) (map pair_of rest) h)))
      | inr h ↦
          let less = leb-false (bytes_of node.pairs) at h in
          let number : count_ended at (pairs_of_level (node ∷ rest)) ≡ count_ended at node.pairs =
          listed ∙ ended-front at node.pairs (pairs_of_level rest) less in
          let few = ended-few at node.pairs less in
          let here : nat_lt (count_ended at node.pairs) (length node.pairs) ≡ true =
          is-less (count_ended at node.pairs) (length node.pairs) few in
          let step : node_at (node ∷ rest) (count_ended at node.pairs) ≡ 0 = rw (here, node_at) in
          ap (node_at (node ∷ rest)) number ∙ (step ∙ sym (count_ended-within at (pair_of node) (map pair_of rest) h))
    ]
  where
    not-less : (a b : ℕ) → nat_lt (a + b) a ≡ false
    not-less a b = elim (cases_Bool (nat_lt (a + b) a)) [
      | inl less ↦ let is = ltb-true (a + b) a less in absurd (omega (arith, is))
      | inr not ↦ not
    ]

    is-less : (a b : ℕ) → a < b → nat_lt a b ≡ true
    is-less a b less = elim (cases_Bool (nat_lt a b)) [
      | inl is ↦ is
      | inr not ↦ let none = ltb-false a b not in absurd (omega (arith, none, less))
    ]

-- ---- nodes of two pairs and more

-- the node has two pairs at least
abbrev pub HasTwo : PageNode → Type 0
HasTwo node = 2 ≤ length node.pairs

pub twice-pairs : (nodes : List PageNode) → AllByRecursion HasTwo nodes → length nodes + length nodes ≤ length (pairs_of_level nodes)
twice-pairs [] two = let none : 0 + 0 ≤ 0 = omega arith in none
twice-pairs (node ∷ rest) two =
    let here = two.0 in
    let more = twice-pairs rest two.1 in
    let count = count-cons node rest in
    let long : length (node ∷ rest) ≡ suc (length rest) = refl in
    omega (arith, here, more, count, long)

-- the pair two behind another one lies in the same node or in the next
pub node_at-two : (nodes : List PageNode) (i : ℕ) → AllByRecursion HasTwo nodes → node_at nodes (i + 2) ≤ suc (node_at nodes i)
node_at-two [] i two = let none : 0 ≤ suc 0 = omega arith in none
node_at-two (node ∷ rest) i two =
    elim (cases_Bool (nat_lt (i + 2) (length node.pairs))) [
      | inl here ↦ let step : node_at (node ∷ rest) (i + 2) ≡ 0 = rw (here, node_at) in omega (arith, step)
      | inr past ↦
          let far = ltb-false (i + 2) (length node.pairs) past in
          let step : node_at (node ∷ rest) (i + 2) ≡ suc (node_at rest (i + 2 - length node.pairs)) = rw (past, node_at) in
          elim (cases_Bool (nat_lt i (length node.pairs))) [
            | inl near ↦
                let less = ltb-true i (length node.pairs) near in
                let none = first-two rest (i + 2 - length node.pairs) two.1 (omega (arith, less)) in
                omega (arith, step, none)
            | inr behind ↦
                let low = ltb-false i (length node.pairs) behind in
                let step2 : node_at (node ∷ rest) i ≡ suc (node_at rest (i - length node.pairs)) = rw (behind, node_at) in
                let same : i + 2 - length node.pairs ≡ i - length node.pairs + 2 = omega (arith, low) in
                let more = node_at-two rest (i - length node.pairs) two.1 in
                let moved = ap (node_at rest) same in
                omega (arith, step, step2, moved, more)
          ]
    ]
  where
    first-two : (xs : List PageNode) (k : ℕ) → AllByRecursion HasTwo xs → k < 2 → node_at xs k ≡ 0
    first-two [] k two less = refl
    first-two (x ∷ xs) k two less = elim (cases_Bool (nat_lt k (length x.pairs))) [
      | inl here ↦ rw (here, node_at)
      | inr past ↦ let none = ltb-false k (length x.pairs) past in let many = two.0 in absurd (omega (arith, none, many, less))
    ]
