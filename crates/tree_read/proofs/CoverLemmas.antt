-- The pairs that a range meets stand one after the other, and have all of its bytes.
use Rattle.std.proofs.Common.{◌≡◌, ℕ, zero, suc, ◌+◌, ◌<◌, ◌≤◌, true, false, List, [], ◌∷◌, ◌++◌, length, take}
use Rattle.std.proofs.Common.{get_or, min, max, refl, sym, ap, subst, ◌∙◌, inl, inr, arith}
use Rattle.std.proofs.lemmas.Bool.{cases_lt, ltb-false, ltb-true}
use Rattle.std.proofs.lemmas.List.{map-append, take_more}
use Rattle.tree_model.specs.declared.entry.Pair.{Pair}
use Rattle.tree_model.specs.declared.entry.Placed.{Placed}
use Rattle.tree_model.specs.Tree.{bytes_of}
use Rattle.tree_model.specs.Range.{Covers, is_in_range, in_range, pairs_of, placed, start_of}
use Rattle.tree_model.proofs.RangeLemmas.{in_range-append}
use Rattle.tree_read.proofs.TreeLemmas.{at_start, bytes_of-append, bytes_of-cons, in_range-nothing}

-- from a place on that isn't before the range, what is found begins there, and has what is left of the range
record IsLeft (to start : ℕ) (found : List Placed) : Type 0 where
  pub adjoined : found ≡ placed start (pairs_of found)
  pub last : start ≤ to → to ≤ start + bytes_of (pairs_of found)

left-nothing : (to start : ℕ) (found : List Placed) → found ≡ [] → to ≤ start → IsLeft to start found
left-nothing to start found none past = subst (IsLeft to start) (sym none) (record { adjoined = refl; last = λ from. omega arith })

left-in_range : (from to start : ℕ) (xs : List Pair) → from ≤ start → to ≤ start + bytes_of xs
    → IsLeft to start (in_range from to start xs)
left-in_range from to start [] begun enough = record { adjoined = refl; last = λ _. enough }
left-in_range from to start (x ∷ xs) begun enough =
    let parts = bytes_of-cons x xs in
    let rest = left-in_range from to (start + x.bytes) xs (omega arith) (omega arith) in
    (elim (is_in_range from to (at_start start x)) as (λ b. is_in_range from to (at_start start x) ≡ b
    → IsLeft to start (in_range from to start (x ∷ xs))) [
      | true ↦ λ e.
          let meet = ltb-true (max from start) (min to (start + x.bytes)) e in
          let found = in_range from to (start + x.bytes) xs in
          let sum = bytes_of-cons x (pairs_of found) in
          let last : to ≤ start + bytes_of (x ∷ pairs_of found) = elim (cases_lt to (start + x.bytes)) [
            | inl inside ↦ omega (arith, sum)
            | inr behind ↦ let more = rest.last behind in omega (arith, more, sum)
          ] in
          rw e (record { adjoined = ap (λ (ss : List Placed). at_start start x ∷ ss) rest.adjoined; last = λ _. last })
      | false ↦ λ e.
          let apart = ltb-false (max from start) (min to (start + x.bytes)) e in
          rw e (elim (cases_lt start to) [
            | inl more ↦
                let same : start + x.bytes ≡ start = omega arith in
                subst (λ (n : ℕ). IsLeft to n (in_range from to (start + x.bytes) xs)) same rest
            | inr past ↦ left-nothing to start (in_range from to (start + x.bytes) xs)
                (in_range-nothing from to (start + x.bytes) xs (omega arith)) past
          ])
    ]) refl

-- what is found from a place on that isn't behind the range's start covers the range
covers-some : (from to start : ℕ) (xs : List Pair) → from < to → start ≤ from → to ≤ start + bytes_of xs
    → Covers (in_range from to start xs) from to
covers-some from to start [] some first last = absurd (omega arith)
covers-some from to start (x ∷ xs) some first last =
    let parts = bytes_of-cons x xs in
    (elim (is_in_range from to (at_start start x)) as (λ b. is_in_range from to (at_start start x) ≡ b
    → Covers (in_range from to start (x ∷ xs)) from to) [
      | true ↦ λ e.
          let meet = ltb-true (max from start) (min to (start + x.bytes)) e in
          let found = in_range from to (start + x.bytes) xs in
          let rest = left-in_range from to (start + x.bytes) xs (omega arith) (omega arith) in
          let sum = bytes_of-cons x (pairs_of found) in
          let end : to ≤ start + bytes_of (x ∷ pairs_of found) = elim (cases_lt to (start + x.bytes)) [
            | inl inside ↦ omega (arith, sum)
            | inr behind ↦ let more = rest.last behind in omega (arith, more, sum)
          ] in
          rw e (record { adjoined = ap (λ (ss : List Placed). at_start start x ∷ ss) rest.adjoined; first = λ _. first; last = λ _. end })
      | false ↦ λ e.
          let apart = ltb-false (max from start) (min to (start + x.bytes)) e in
          rw e (covers-some from to (start + x.bytes) xs some (omega arith) (omega arith))
    ]) refl

pub covers-none : (from to : ℕ) (found : List Placed) → found ≡ [] → to ≤ from → Covers found from to
covers-none from to found none empty =
    subst (λ (ss : List Placed). Covers ss from to) (sym none)
    (record { adjoined = refl; first = λ some. absurd (omega arith); last = λ some. absurd (omega arith) })

-- what a range meets of pairs that have its bytes covers the range
pub covers-in_range : (from to start : ℕ) (xs : List Pair) → (from < to → start ≤ from) → (from < to → to ≤ start + bytes_of xs)
    → Covers (in_range from to start xs) from to
covers-in_range from to start xs first last = elim (cases_lt from to) [
  | inl some ↦ covers-some from to start xs some (first some) (last some)
  | inr none ↦ covers-none from to (in_range from to start xs) (in_range-nothing from to start xs (omega arith)) none
]

-- the place of one of the pairs, where the first begins at `start`
placed-start : (start : ℕ) (xs : List Pair) (i : ℕ) (d : Placed) → i < length (placed start xs)
    → (get_or (placed start xs) i d).start ≡ start + bytes_of (pairs_of (take i (placed start xs)))
placed-start start [] i d within = absurd (omega arith)
placed-start start (x ∷ xs) zero d within = omega arith
placed-start start (x ∷ xs) (suc i) d within =
    let rest = placed-start (start + x.bytes) xs i d (omega arith) in
    let sum = bytes_of-cons x (pairs_of (take i (placed (start + x.bytes) xs))) in
    omega (arith, rest, sum)

-- the place of a pair, where the pairs stand one after the other
pub adjoined-start : (nodes : List Placed) (i : ℕ) (d : Placed) → nodes ≡ placed (start_of nodes) (pairs_of nodes) → i < length nodes
    → (get_or nodes i d).start ≡ start_of nodes + bytes_of (pairs_of (take i nodes))
adjoined-start nodes i d adjoined within =
    let P : List Placed → Type 0 = λ ss. i < length ss → (get_or ss i d).start ≡ start_of nodes + bytes_of (pairs_of (take i ss)) in
    subst P (sym adjoined) (placed-start (start_of nodes) (pairs_of nodes) i d) within

-- these children are what the range meets of pairs that have just the bytes of the nodes, from `start` on
pub record AreChildren (from to start : ℕ) (nodes children : List Placed) : Type 0 where
  pub pairs : List Pair
  pub met : children ≡ in_range from to start pairs
  pub sum : bytes_of pairs ≡ bytes_of (pairs_of nodes)

pub AreChildren-none : (from to start : ℕ) → AreChildren from to start [] []
AreChildren-none from to start = record { pairs = []; met = refl; sum = refl }

-- one node more
pub AreChildren-more : (from to start : ℕ) (nodes before after : List Placed) (ps : List Pair) (i : ℕ) (d : Placed) → i < length nodes
    → AreChildren from to start (take i nodes) before → (get_or nodes i d).start ≡ start + bytes_of (pairs_of (take i nodes))
    → bytes_of ps ≡ (get_or nodes i d).pair.bytes → after ≡ before ++ in_range from to (get_or nodes i d).start ps
    → AreChildren from to start (take (i + 1) nodes) after
AreChildren-more from to start nodes before after ps i d within so_far place bytes next =
    let s = get_or nodes i d in
    let here : s.start ≡ start + bytes_of so_far.pairs = omega (arith, place, so_far.sum) in
    let all = ap pairs_of (take_more nodes i d within) ∙ map-append (λ (r : Placed). r.pair) (take i nodes) (s ∷ []) in
    let whole = ap bytes_of all ∙ bytes_of-append (pairs_of (take i nodes)) (s.pair ∷ []) in
    let one = bytes_of-cons s.pair [] in
    let both = bytes_of-append so_far.pairs ps in
    record {
      pairs = so_far.pairs ++ ps;
      met = next ∙ ap (λ (ss : List Placed). ss ++ in_range from to s.start ps) so_far.met
          ∙ ap (λ (n : ℕ). in_range from to start so_far.pairs ++ in_range from to n ps) here
          ∙ sym (in_range-append from to start so_far.pairs ps);
      sum = omega (arith, so_far.sum, whole, one, both, bytes);
    }

-- the children of nodes that cover the range cover it
pub AreChildren-cover : (from to : ℕ) (nodes children : List Placed) → Covers nodes from to
    → AreChildren from to (start_of nodes) nodes children
    → Covers children from to
AreChildren-cover from to nodes children covers are =
    subst (λ (ss : List Placed). Covers ss from to) (sym are.met)
    (covers-in_range from to (start_of nodes) are.pairs covers.first (λ some. let last = covers.last some in omega (arith, last, are.sum)))
