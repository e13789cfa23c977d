-- Counts of the pages of which one of two tests holds, where never both do.
use Rattle.std.proofs.Common.{◌≡◌, ℕ, ◌+◌, ◌*◌, ◌≤◌, Bool, true, false, cond, List, [], ◌∷◌, map, length, sum_by}
use Rattle.std.proofs.Common.{refl, sym, ap, subst, arith, ◌∙◌}
use Rattle.std.specs.Prelude.{nat_eq, nat_lt, ◌&&◌}
use Rattle.std.specs.List.{count_by, range_with_len}
use Rattle.std.proofs.lemmas.Bool.Decides.{nat_tests}
use Rattle.std.proofs.lemmas.List.Sums.{sum_by-cons}
use Rattle.std.proofs.lemmas.List.FromFn.{length-range_with_len}
use Rattle.geometry_model.specs.Numbers.{Numbers, space_pages}
use Rattle.geometry_model.specs.Pages.{data_page}
use Rattle.moment_model.specs.Moment.{Moment, all_committed, all_working, is_free, is_locked, tests_in, free_in}
use Rattle.moment_model.specs.Moment.{locked_in, free_of, locked_of, count_pages}

abbrev bit_of : Bool → Bool
bit_of b = b

-- never both: at most one a number
tests-within : (f g : ℕ → Bool) → ((k : ℕ) → cond (f k) 1 0 + cond (g k) 1 0 ≤ 1) → (ks : List ℕ) →
    count_by (λ bit. bit) (map f ks) + count_by (λ bit. bit) (map g ks) ≤ length ks
tests-within f g one [] = let none : 0 + 0 ≤ 0 = omega arith in none
tests-within f g one (k ∷ ks) =
    let left = sum_by-cons (λ (bit : Bool). cond bit 1 0) (f k) (map f ks) in
    let right = sum_by-cons (λ (bit : Bool). cond bit 1 0) (g k) (map g ks) in
    let here = one k in
    let more = tests-within f g one ks in
    omega (arith, left, right, here, more)

-- and so over all spaces
rows-within : (f g : ℕ → List Bool) (most : ℕ) →
    ((s : ℕ) → count_by (λ bit. bit) (f s) + count_by (λ bit. bit) (g s) ≤ most) → (ss : List ℕ) →
    count_pages (map f ss) + count_pages (map g ss) ≤ length ss * most
rows-within f g most each [] = let none : 0 + 0 ≤ 0 * most = omega arith in none
rows-within f g most each (s ∷ ss) =
    let left = sum_by-cons (count_by (λ (bit : Bool). bit)) (f s) (map f ss) in
    let right = sum_by-cons (count_by (λ (bit : Bool). bit)) (g s) (map g ss) in
    let here = each s in
    let more = rows-within f g most each ss in
    omega (arith, left, right, here, more)

-- no page is both free and locked
one_of_two : (committed working : ℕ) → cond (nat_eq committed 0 && nat_eq working 0) 1 0 + cond
    (nat_lt 0 committed && nat_eq working 0) 1 0 ≤ 1
one_of_two committed working = grind (arith, nat_tests)

space-within : (n : Numbers) (moment : Moment) (s : ℕ) →
    count_by (λ bit. bit) (free_in n moment s) + count_by (λ bit. bit) (locked_in n moment s) ≤ space_pages n
space-within n moment s =
    let count = length-range_with_len 0 (space_pages n) in
    let both = tests-within (λ at. is_free n (data_page n s at) moment) (λ at. is_locked n (data_page n s at) moment)
    (λ at. one_of_two (all_committed n (data_page n s at) moment) (all_working n (data_page n s at) moment))
    (range_with_len 0 (space_pages n)) in
    omega (arith, count, both)

pub pages-within : (n : Numbers) (moment : Moment) →
    count_pages (free_of n moment) + count_pages (locked_of n moment) ≤ n.spaces * space_pages n
unfolding free_of locked_of
pages-within n moment =
    let count = length-range_with_len 0 n.spaces in
    let all = rows-within (free_in n moment) (locked_in n moment) (space_pages n) (space-within n moment) (range_with_len 0 n.spaces) in
    subst (λ (k : ℕ). count_pages (map (free_in n moment)
    (range_with_len 0 n.spaces)) + count_pages (map (locked_in n moment)
    (range_with_len 0 n.spaces)) ≤ k * space_pages n) count all
