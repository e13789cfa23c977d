-- What a set is after a run of pages was taken out of it or put into it.
use Rattle.std.proofs.Common.{◌≡◌, ℕ, zero, suc, ◌+◌, ◌<◌, ◌≤◌, Bool, true, false, cond, List, [], ◌∷◌, ◌++◌, take}
use Rattle.std.proofs.Common.{drop, replicate, length, refl, sym, ap, ◌∙◌, arith, rules}
use Rattle.std.proofs.lemmas.List.{places, drop-drop, length-take, take-append-drop}
use Rattle.std.proofs.lemmas.List.Sums.{count_by-le-length, sum_by-append}
use Rattle.block_model.specs.Block.{has_page, count_of, with_run}

pub in_three : (pages : List Bool) (first n : ℕ) → take first pages ++ (take n (drop first pages) ++ drop (first + n) pages) ≡ pages
in_three pages first n =
    ap (λ (rest : List Bool). take first pages ++ rest)
    (ap (λ (rest : List Bool). take n (drop first pages) ++ rest) (sym (drop-drop n first pages))
    ∙ take-append-drop n (drop first pages)) ∙ take-append-drop first pages

pub count-append : (left right : List Bool) → count_of (left ++ right) ≡ count_of left + count_of right
count-append left right = sum_by-append (λ (b : Bool). cond b 1 0) left right

pub length-with_run : (pages : List Bool) (first n : ℕ) (b : Bool) → first + n ≤ length pages →
    length (with_run pages first n b) ≡ length pages
length-with_run pages first n b fits = search (rules, places)

pub with_run-below : (pages : List Bool) (first n : ℕ) (b : Bool) (page : ℕ) → first + n ≤ length pages →
    page < first → has_page (with_run pages first n b) page ≡ has_page pages page
with_run-below pages first n b page fits below = grind (arith, places)

pub with_run-inside : (pages : List Bool) (first n : ℕ) (b : Bool) (page : ℕ) → first + n ≤ length pages →
    first ≤ page → page < first + n → has_page (with_run pages first n b) page ≡ b
with_run-inside pages first n b page fits from to = grind (arith, places)

pub with_run-above : (pages : List Bool) (first n : ℕ) (b : Bool) (page : ℕ) → first + n ≤ length pages →
    first + n ≤ page → has_page (with_run pages first n b) page ≡ has_page pages page
with_run-above pages first n b page fits above = grind (arith, places)

-- how many pages are in the set afterwards
pub count-with_run : (pages : List Bool) (first n : ℕ) (b : Bool) → first + n ≤ length pages →
    count_of (with_run pages first n b) + count_of (take n (drop first pages)) ≡ count_of pages + count_of (replicate n b)
count-with_run pages first n b fits =
    let split : take first pages ++ (take n (drop first pages) ++ drop (first + n) pages) ≡ pages = in_three pages first n in
    let whole : count_of pages ≡ count_of (take first pages) + (count_of (take n (drop first pages)) + count_of (drop (first + n) pages)) =
    ap count_of (sym split) ∙ count-append (take first pages) (take n (drop first pages) ++ drop (first + n) pages)
    ∙ ap (λ x. count_of (take first pages) + x)
    (count-append (take n (drop first pages)) (drop (first + n) pages)) in
    let made : count_of (with_run pages first n b)
    ≡ count_of (take first pages) + (count_of (replicate n b) + count_of (drop (first + n) pages)) =
    count-append (take first pages) (replicate n b ++ drop (first + n) pages)
    ∙ ap (λ x. count_of (take first pages) + x) (count-append (replicate n b) (drop (first + n) pages)) in
    omega arith

pub count-replicate_true : (n : ℕ) → count_of (replicate n true) ≡ n
count-replicate_true zero = refl
count-replicate_true (suc n) = let e : count_of (replicate (suc n) true) ≡ 1 + count_of (replicate n true) =
    count-append (true ∷ []) (replicate n true) in omega (arith, count-replicate_true n)

pub count-replicate_false : (n : ℕ) → count_of (replicate n false) ≡ 0
count-replicate_false zero = refl
count-replicate_false (suc n) = let e : count_of (replicate (suc n) false) ≡ 0 + count_of (replicate n false) =
    count-append (false ∷ []) (replicate n false) in omega (arith, count-replicate_false n)

pub count-take-le : (n : ℕ) (pages : List Bool) → count_of (take n pages) ≤ n
count-take-le n pages = omega (arith, count_by-le-length (λ (b : Bool). b) (take n pages), length-take n pages)

pub count-le-length : (pages : List Bool) → count_of pages ≤ length pages
count-le-length pages = count_by-le-length (λ (b : Bool). b) pages
