-- The entries under nodes: how they are cut at a border of pairs, how many bytes they have, and which of them a range
-- meets.
use Rattle.std.proofs.Common.{◌≡◌, ℕ, zero, suc, ◌+◌, ◌<◌, ◌≤◌, true, false, List, [], ◌∷◌, ◌++◌, length, min, max}
use Rattle.std.proofs.Common.{refl, ap, ◌∙◌, append-nil, length-append, arith}
use Rattle.std.specs.List.{AllByRecursion, flat_map}
use Rattle.std.proofs.lemmas.Bool.{ltb-false, ltb-true, le-ltb}
use Rattle.std.proofs.lemmas.Grind.{flat_map-append}
use Rattle.std.proofs.lemmas.List.Sums.{sum_by-append, sum_by-cons}
use Rattle.base_laws.proofs.ListLaws.{all-append, all-map}
use Rattle.tree_model.specs.declared.entry.Pair.{Pair}
use Rattle.tree_model.specs.declared.entry.Placed.{Placed}
use Rattle.tree_model.specs.Tree.{Pages, bytes_of, pairs_on, HasNode, AreTrees, IsTree, entries_under, entries_of, root_least}
use Rattle.tree_model.specs.Range.{is_in_range, in_range, pairs_of}
use Rattle.tree_model.proofs.RangeLemmas.{in_range-append}
use Rattle.tree_model.proofs.TreeLemmas.{bytes_of-entries_under}

-- the bytes of a list of pairs
pub bytes_of-cons : (p : Pair) (ps : List Pair) → bytes_of (p ∷ ps) ≡ p.bytes + bytes_of ps
bytes_of-cons p ps = sum_by-cons (λ (q : Pair). q.bytes) p ps

pub bytes_of-append : (xs ys : List Pair) → bytes_of (xs ++ ys) ≡ bytes_of xs + bytes_of ys
bytes_of-append xs ys = sum_by-append (λ (q : Pair). q.bytes) xs ys

-- the entries under one pair
abbrev pub under : Pages → ℕ → Pair → List Pair
under at height p = entries_under at height (p ∷ [])

-- the entries under a node's pairs, one part after the other
pub entries_under-append : (at : Pages) (height : ℕ) (xs ys : List Pair)
    → entries_under at height (xs ++ ys) ≡ entries_under at height xs ++ entries_under at height ys
entries_under-append at zero xs ys = refl
entries_under-append at (suc height) xs ys = flat_map-append (λ (p : Pair). entries_under at height (pairs_on at p.page)) xs ys

pub entries_under-nil : (at : Pages) (height : ℕ) → entries_under at height [] ≡ []
entries_under-nil at zero = refl
entries_under-nil at (suc height) = refl

-- under a pair that names a node are the entries under the node's pairs
pub under-node : (at : Pages) (height : ℕ) (p : Pair) → under at (suc height) p ≡ entries_under at height (pairs_on at p.page)
under-node at height p = append-nil (entries_under at height (pairs_on at p.page))

-- each part of a list of trees is one
pub AreTrees-first : (at : Pages) (half height : ℕ) (p : Pair) (ps : List Pair) → AreTrees at half height (p ∷ ps)
    → AreTrees at half height (p ∷ [])
AreTrees-first at half zero p ps trees = tt
AreTrees-first at half (suc height) p ps trees = (trees.0, tt)

pub AreTrees-rest : (at : Pages) (half height : ℕ) (p : Pair) (ps : List Pair) → AreTrees at half height (p ∷ ps)
    → AreTrees at half height ps
AreTrees-rest at half zero p ps trees = tt
AreTrees-rest at half (suc height) p ps trees = trees.1

pub AreTrees-nil : (at : Pages) (half height : ℕ) → AreTrees at half height []
AreTrees-nil at half zero = tt
AreTrees-nil at half (suc height) = tt

pub AreTrees-append : (at : Pages) (half height : ℕ) (xs ys : List Pair) → AreTrees at half height xs → AreTrees at half height ys
    → AreTrees at half height (xs ++ ys)
AreTrees-append at half zero xs ys first second = tt
AreTrees-append at half (suc height) xs ys first second = all-append _ xs ys first second

-- a node may be asked for less
HasNode-least : (at : Pages) (page level least bytes : ℕ) → HasNode at page level least bytes → HasNode at page level 0 bytes
HasNode-least at page level least bytes h = record { held = h.held; is_level = h.is_level; filled = omega arith; counted = h.counted }

-- trees whatever their nodes' fill
pub AreTrees-least : (at : Pages) (half height : ℕ) (pairs : List Pair) → AreTrees at half height pairs → AreTrees at 0 height pairs
AreTrees-least at half zero pairs trees = tt
AreTrees-least at half (suc height) pairs trees = all-map
    (λ (p : Pair). HasNode at p.page (suc height) half p.bytes × AreTrees at half height (pairs_on at p.page))
    (λ (p : Pair). HasNode at p.page (suc height) 0 p.bytes × AreTrees at 0 height (pairs_on at p.page))
    (λ p here. (HasNode-least at p.page (suc height) half p.bytes here.0, AreTrees-least at half height (pairs_on at p.page) here.1))
    pairs trees

-- a tree is one pair, that of its root
pub AreTrees-root : (at : Pages) (half height page bytes : ℕ) → IsTree at half (suc height) page bytes
    → AreTrees at 0 (suc height) (record { bytes = bytes; page = page } ∷ [])
AreTrees-root at half height page bytes tree = (
  (
    HasNode-least at page (suc height) (root_least (suc height)) bytes tree.0,
    AreTrees-least at half height (pairs_on at page) tree.1,
  ),
  tt,
)

pub under-root : (at : Pages) (height page bytes : ℕ)
    → under at (suc height) (record { bytes = bytes; page = page }) ≡ entries_of at (suc height) page
under-root at height page bytes = append-nil (entries_under at height (pairs_on at page))

pub bytes_of-under : (at : Pages) (half height : ℕ) (p : Pair) → AreTrees at half height (p ∷ []) → bytes_of (under at height p) ≡ p.bytes
bytes_of-under at half height p trees = let whole = bytes_of-entries_under at half height (p ∷ []) trees in omega arith

abbrev pub at_start : ℕ → Pair → Placed
at_start start p = record { start = start; pair = p }

-- outside of the range nothing is found
pub in_range-nothing : (from to start : ℕ) (xs : List Pair) → min to (start + bytes_of xs) ≤ max from start
    → in_range from to start xs ≡ []
in_range-nothing from to start [] apart = refl
in_range-nothing from to start (x ∷ xs) apart =
    let parts = bytes_of-cons x xs in
    let first : min to (start + x.bytes) ≤ max from start = omega arith in
    let out : is_in_range from to (at_start start x) ≡ false = le-ltb (max from start) (min to (start + x.bytes)) first in
    let rest = in_range-nothing from to (start + x.bytes) xs (omega arith) in
    rw out rest

-- in the range something is found
pub in_range-some : (from to start : ℕ) (xs : List Pair) → max from start < min to (start + bytes_of xs)
    → 1 ≤ length (in_range from to start xs)
in_range-some from to start [] meet = absurd (omega arith)
in_range-some from to start (x ∷ xs) meet =
    let parts = bytes_of-cons x xs in
    (elim (is_in_range from to (at_start start x)) as (λ b. is_in_range from to (at_start start x) ≡ b
    → 1 ≤ length (in_range from to start (x ∷ xs))) [
      | true ↦ λ e. rw e (omega arith)
      | false ↦ λ e.
          let before = ltb-false (max from start) (min to (start + x.bytes)) e in
          rw e (in_range-some from to (start + x.bytes) xs (omega arith))
    ]) refl

-- what a range meets of the entries under placed pairs
abbrev pub found : Pages → ℕ → ℕ → ℕ → List Placed → List Placed
found at height from to nodes = flat_map (λ s. in_range from to s.start (under at height s.pair)) nodes

pub found-append : (at : Pages) (height from to : ℕ) (xs ys : List Placed)
    → found at height from to (xs ++ ys) ≡ found at height from to xs ++ found at height from to ys
found-append at height from to xs ys = flat_map-append (λ (s : Placed). in_range from to s.start (under at height s.pair)) xs ys

-- the pairs that the range meets lead to all entries that it meets
pub found-node : (at : Pages) (half height from to start : ℕ) (ns : List Pair) → AreTrees at half height ns
    → in_range from to start (entries_under at height ns) ≡ found at height from to (in_range from to start ns)
found-node at half height from to start [] trees = rw (entries_under-nil at height) refl
found-node at half height from to start (n ∷ ns) trees =
    let first = AreTrees-first at half height n ns trees in
    let sum = bytes_of-under at half height n first in
    let split : in_range from to start (entries_under at height (n ∷ ns))
    ≡ in_range from to start (under at height n) ++ in_range from to (start + n.bytes)
    (entries_under at height ns) =
    ap (in_range from to start) (entries_under-append at height (n ∷ []) ns)
    ∙ in_range-append from to start (under at height n) (entries_under at height ns)
    ∙ ap (λ (b : ℕ). in_range from to start (under at height n) ++ in_range from to (start + b) (entries_under at height ns)) sum in
    let rest = found-node at half height from to (start + n.bytes) ns (AreTrees-rest at half height n ns trees) in
    split ∙ ap (λ (r : List Placed). in_range from to start (under at height n) ++ r) rest
    ∙ (elim (is_in_range from to (at_start start n)) as (λ b. is_in_range from to (at_start start n) ≡ b
    → in_range from to start (under at height n) ++ found at height from to (in_range from to (start + n.bytes) ns)
    ≡ found at height from to (in_range from to start (n ∷ ns))) [
      | true ↦ λ e. rw e refl
      | false ↦ λ e.
          let before = ltb-false (max from start) (min to (start + n.bytes)) e in
          let none = in_range-nothing from to start (under at height n) (omega arith) in
          rw (e, none) refl
    ]) refl

-- one level down: a placed pair leads to what the pairs of its node lead to
pub found-down : (at : Pages) (half height from to : ℕ) (s : Placed) → AreTrees at half (suc height) (s.pair ∷ [])
    → in_range from to s.start (under at (suc height) s.pair)
    ≡ found at height from to (in_range from to s.start (pairs_on at s.pair.page))
found-down at half height from to s trees =
    ap (in_range from to s.start) (under-node at height s.pair)
    ∙ found-node at half height from to s.start (pairs_on at s.pair.page) trees.0.1

-- at the lowest level what is found is what is placed
pub found-entries : (at : Pages) (from to : ℕ) (segments : List Placed) → AllByRecursion (λ s. is_in_range from to s ≡ true) segments
    → found at 0 from to segments ≡ segments
found-entries at from to [] each = refl
found-entries at from to (s ∷ ss) each =
    let here : is_in_range from to (at_start s.start s.pair) ≡ true = each.0 in
    rw (here, found-entries at from to ss each.1) refl

-- what is in range is in range
pub in_range-each : (from to start : ℕ) (xs : List Pair) → AllByRecursion (λ s. is_in_range from to s ≡ true) (in_range from to start xs)
in_range-each from to start [] = tt
in_range-each from to start (x ∷ xs) =
    (elim (is_in_range from to (at_start start x)) as (λ b. is_in_range from to (at_start start x) ≡ b
    → AllByRecursion (λ s. is_in_range from to s ≡ true) (in_range from to start (x ∷ xs))) [
      | true ↦ λ e. rw e (e, in_range-each from to (start + x.bytes) xs)
      | false ↦ λ e. rw e (in_range-each from to (start + x.bytes) xs)
    ]) refl

-- a fact on each pair is one on each that the range meets
pub AllByRecursion-in_range : (P : Pair → Type 0) (from to start : ℕ) (xs : List Pair) → AllByRecursion P xs
    → AllByRecursion P (pairs_of (in_range from to start xs))
AllByRecursion-in_range P from to start [] each = tt
AllByRecursion-in_range P from to start (x ∷ xs) each =
    (elim (is_in_range from to (at_start start x)) as (λ b. is_in_range from to (at_start start x) ≡ b
    → AllByRecursion P (pairs_of (in_range from to start (x ∷ xs)))) [
      | true ↦ λ e. rw e (each.0, AllByRecursion-in_range P from to (start + x.bytes) xs each.1)
      | false ↦ λ e. rw e (AllByRecursion-in_range P from to (start + x.bytes) xs each.1)
    ]) refl

pub AreTrees-in_range : (at : Pages) (half height from to start : ℕ) (xs : List Pair) → AreTrees at half height xs
    → AreTrees at half height (pairs_of (in_range from to start xs))
AreTrees-in_range at half zero from to start xs trees = tt
AreTrees-in_range at half (suc height) from to start xs trees = AllByRecursion-in_range _ from to start xs trees

-- each placed pair that the range meets leads to an entry at least
pub length-found : (at : Pages) (half height from to : ℕ) (nodes : List Placed)
    → AllByRecursion (λ s. is_in_range from to s ≡ true) nodes → AreTrees at half height (pairs_of nodes)
    → length nodes ≤ length (found at height from to nodes)
length-found at half height from to [] each trees = omega arith
length-found at half height from to (s ∷ ss) each trees =
    let sum = bytes_of-under at half height s.pair (AreTrees-first at half height s.pair (pairs_of ss) trees) in
    let meet = ltb-true (max from s.start) (min to (s.start + s.pair.bytes)) each.0 in
    let here = in_range-some from to s.start (under at height s.pair) (omega arith) in
    let rest = length-found at half height from to ss each.1 (AreTrees-rest at half height s.pair (pairs_of ss) trees) in
    let whole = length-append (in_range from to s.start (under at height s.pair)) (found at height from to ss) in
    omega (arith, here, rest, whole)
