-- How the entries in a range are cut: at a border of two lists, before the range and behind it.
use Rattle.std.proofs.Common.{◌≡◌, ℕ, zero, suc, ◌+◌, ◌<◌, List, [], ◌∷◌, ◌++◌, length, drop, get_or, refl, sym, ap, ◌∙◌, arith}
use Rattle.std.specs.List.{filter}
use Rattle.std.proofs.lemmas.List.Elements.{filter-append}
use Rattle.std.proofs.lemmas.List.Sums.{sum_by-cons}
use Rattle.tree_model.specs.declared.entry.Pair.{Pair}
use Rattle.tree_model.specs.declared.entry.Placed.{Placed}
use Rattle.tree_model.specs.Tree.{bytes_of}
use Rattle.tree_model.specs.Range.{placed, in_range, is_in_range, pairs_of}

-- the starts of two lists, one after the other
pub placed-append : (start : ℕ) (xs ys : List Pair) → placed start (xs ++ ys) ≡ placed start xs ++ placed (start + bytes_of xs) ys
placed-append start [] ys = let e : start + 0 ≡ start = omega arith in rw e refl
placed-append start (x ∷ xs) ys =
    let rest = placed-append (start + x.bytes) xs ys in
    let sum : start + bytes_of (x ∷ xs) ≡ start + x.bytes + bytes_of xs = omega (arith, sum_by-cons (λ (p : Pair). p.bytes) x xs) in
    rw (sum, rest) refl

-- the entries in a range of two lists, one after the other
pub in_range-append : (from to start : ℕ) (xs ys : List Pair)
    → in_range from to start (xs ++ ys) ≡ in_range from to start xs ++ in_range from to (start + bytes_of xs) ys
in_range-append from to start xs ys =
    ap (filter (is_in_range from to)) (placed-append start xs ys)
    ∙ filter-append (is_in_range from to) (placed start xs) (placed (start + bytes_of xs) ys)

-- ---- one after the other

-- what a segment past the end is read as
abbrev pub no_segment : Placed
no_segment = record { start = 0; pair = record { bytes = 0; page = 0 } }

-- the segments from the j-th on are that one and those behind it
pub next-pair : (window : List Placed) (j : ℕ) → j < length window →
    drop j (pairs_of window) ≡ (get_or window j no_segment).pair ∷ drop (j + 1) (pairs_of window)
next-pair [] j less = absurd (omega (arith, less))
next-pair (s ∷ ss) zero less = refl
next-pair (s ∷ ss) (suc j) less =
    let long : suc j < suc (length ss) = less in
    let one : suc j + 1 ≡ suc (j + 1) = omega arith in
    next-pair ss j (omega (arith, long))
    ∙ ap (λ (k : ℕ). (get_or ss j no_segment).pair ∷ drop k (s.pair ∷ pairs_of ss)) (sym one)
