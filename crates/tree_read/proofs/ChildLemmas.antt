-- The pairs of a node in a range, one after the other.
use Rattle.std.proofs.Common.{◌≡◌, ℕ, ◌+◌, ◌<◌, ◌≤◌, true, false, List, [], ◌∷◌, ◌++◌, length, take, drop, get_or}
use Rattle.std.proofs.Common.{min, max, refl, sym, ap, ◌∙◌, arith}
use Rattle.std.proofs.lemmas.Bool.{le-ltb, lt-ltb}
use Rattle.std.proofs.lemmas.List.{take_more, take-append-drop, drop_more}
use Rattle.tree_model.specs.declared.entry.Pair.{Pair}
use Rattle.tree_model.specs.declared.entry.Placed.{Placed}
use Rattle.tree_model.specs.Tree.{bytes_of}
use Rattle.tree_model.specs.Range.{is_in_range, in_range}
use Rattle.tree_model.proofs.RangeLemmas.{in_range-append}
use Rattle.tree_read.proofs.TreeLemmas.{at_start, bytes_of-cons, bytes_of-append, in_range-nothing}

-- the bytes of one pair more
pub bytes_of-more : (ps : List Pair) (i : ℕ) (d : Pair) → i < length ps
    → bytes_of (take (i + 1) ps) ≡ bytes_of (take i ps) + (get_or ps i d).bytes
bytes_of-more ps i d l =
    let p = get_or ps i d in
    let whole = ap bytes_of (take_more ps i d l) ∙ bytes_of-append (take i ps) (p ∷ []) in
    let one = bytes_of-cons p [] in
    omega (arith, whole, one)

-- the first pairs have no more bytes than all
pub bytes_of-first : (ps : List Pair) (i : ℕ) → bytes_of (take i ps) ≤ bytes_of ps
bytes_of-first ps i =
    let whole = ap bytes_of (take-append-drop i ps) in
    let parts = bytes_of-append (take i ps) (drop i ps) in
    omega (arith, whole, parts)

-- one pair more, in the range or not
pub in_range-more : (from to start : ℕ) (ps : List Pair) (i : ℕ) (d : Pair) → i < length ps
    → in_range from to start (take (i + 1) ps)
    ≡ in_range from to start (take i ps) ++ in_range from to (start + bytes_of (take i ps)) (get_or ps i d ∷ [])
in_range-more from to start ps i d l =
    ap (in_range from to start) (take_more ps i d l) ∙ in_range-append from to start (take i ps) (get_or ps i d ∷ [])

pub in_range-one : (from to start : ℕ) (p : Pair) → max from start < min to (start + p.bytes)
    → in_range from to start (p ∷ []) ≡ at_start start p ∷ []
in_range-one from to start p meet =
    let yes : is_in_range from to (at_start start p) ≡ true = lt-ltb (max from start) (min to (start + p.bytes)) meet in
    rw yes refl

pub in_range-none : (from to start : ℕ) (p : Pair) → min to (start + p.bytes) ≤ max from start → in_range from to start (p ∷ []) ≡ []
in_range-none from to start p apart =
    let no : is_in_range from to (at_start start p) ≡ false = le-ltb (max from start) (min to (start + p.bytes)) apart in
    rw no refl

-- the one pair under which a byte lies
pub in_range-byte : (at start : ℕ) (ps : List Pair) (i : ℕ) (d : Pair) (place : ℕ) → i < length ps → place ≡ start + bytes_of (take i ps)
    → place ≤ at → at < place + (get_or ps i d).bytes → in_range at (at + 1) start ps ≡ at_start place (get_or ps i d) ∷ []
in_range-byte at start ps i d place l here before behind =
    let p = get_or ps i d in
    let rest = drop (i + 1) ps in
    let split : ps ≡ take i ps ++ (p ∷ rest) =
    sym (take-append-drop i ps) ∙ ap (λ (r : List Pair). take i ps ++ r) (drop_more ps i d l) in
    let first = in_range-nothing at (at + 1) start (take i ps) (omega arith) in
    let yes : is_in_range at (at + 1) (at_start place p) ≡ true = lt-ltb (max at place) (min (at + 1) (place + p.bytes)) (omega arith) in
    let none = in_range-nothing at (at + 1) (place + p.bytes) rest (omega arith) in
    let middle : in_range at (at + 1) place (p ∷ rest) ≡ at_start place p ∷ [] = rw (yes, none) refl in
    ap (in_range at (at + 1) start) split
    ∙ in_range-append at (at + 1) start (take i ps) (p ∷ rest)
    ∙ ap (λ (r : List Placed). r ++ in_range at (at + 1) (start + bytes_of (take i ps)) (p ∷ rest)) first
    ∙ ap (λ (n : ℕ). in_range at (at + 1) n (p ∷ rest)) (sym here)
    ∙ middle
