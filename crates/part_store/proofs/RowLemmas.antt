-- Rows of a list, and the answers of the rule for parts, one row more.
use Rattle.std.proofs.Common.{◌≡◌, ℕ, ◌+◌, ◌≤◌, List, [], ◌∷◌, ◌++◌, length, map, take, drop, refl, sym, ap, ◌∙◌}
use Rattle.std.proofs.Common.{arith}
use Rattle.std.proofs.lemmas.List.{append-nil, append_assoc, take_at, take-append-le, drop-append-le, length-drop}
use Rattle.std.proofs.lemmas.List.Sums.{sum_by-append, sum_by-cons}
use Rattle.std.specs.Prelude.{sum, sum_by}
use Rattle.std.specs.List.{AllByRecursion}
use Rattle.std.proofs.lemmas.List.{nil_from_length}
use Rattle.geometry_model.specs.Numbers.{Numbers}
use Rattle.layout_model.specs.declared.request.Request.{Request}
use Rattle.layout_model.specs.declared.extent.Extent.{Extent}
use Rattle.layout_model.specs.Grants.{Spaces, Answer, Got, Refused, and_then, part_runs, all_runs}
use Rattle.part_store.specs.Asking.{rows, put}

-- one count more
pub sum_more : (counts : List ℕ) (n : ℕ) → sum (counts ++ (n ∷ [])) ≡ sum counts + n
sum_more counts n =
    let one : sum (n ∷ []) ≡ n = omega (arith, sum_by-cons (λ x. x) n []) in
    sum_by-append (λ x. x) counts (n ∷ []) ∙ ap (λ (m : ℕ). sum counts + m) one

-- the elements behind the rows are the row of one count more
pub rows_more : {A : Type 0} (counts : List ℕ) (n : ℕ) (xs ys : List A) → sum counts ≡ length xs → length ys ≡ n →
    rows (counts ++ (n ∷ [])) (xs ++ ys) ≡ rows counts xs ++ (ys ∷ [])
rows_more {A} [] n xs ys whole size =
    let none : xs ≡ [] = nil_from_length xs (sym whole) in
    ap (λ (l : List A). rows (n ∷ []) (l ++ ys)) none
    ∙ ap (λ (l : List A). l ∷ []) (ap (λ (l : List A). take n l) (sym (append-nil ys)) ∙ take_at ys [] n size)
rows_more {A} (c ∷ counts) n xs ys whole size =
    let less : c ≤ length xs = omega (arith, whole, sum_by-cons (λ x. x) c counts) in
    let left : sum counts ≡ length (drop c xs) = omega (arith, whole, sum_by-cons (λ x. x) c counts, length-drop c xs) in
    ap (λ (l : List A). l ∷ rows (counts ++ (n ∷ [])) (drop c (xs ++ ys))) (take-append-le c xs ys less)
    ∙ ap (λ (l : List A). take c xs ∷ rows (counts ++ (n ∷ [])) l) (drop-append-le c xs ys less)
    ∙ ap (λ (l : List (List A)). take c xs ∷ l) (rows_more counts n (drop c xs) ys left size)

-- the sizes of a list
pub sum_of_sizes : {A : Type 0} (size : A → ℕ) (xs : List A) → sum (map size xs) ≡ sum_by size xs
sum_of_sizes size [] = refl
sum_of_sizes size (x ∷ xs) = sum_by-cons (λ n. n) (size x) (map size xs)
    ∙ ap (λ (n : ℕ). size x + n) (sum_of_sizes size xs) ∙ sym (sum_by-cons size x xs)

pub each_size : {A : Type 0} (size : A → ℕ) (P : ℕ → Type 0) (xs : List A) → AllByRecursion (λ x. P (size x)) xs →
    AllByRecursion P (map size xs)
each_size size P [] all = tt
each_size size P (x ∷ xs) all = (all.0, each_size size P xs all.1)

-- ---- the answers

pub put_none : (answer : Answer (List (List Extent))) → answer ≡ put [] answer
put_none (Got more left) = refl
put_none (Refused p) = refl

-- a part's runs behind those of an answer, and in front of the others
put_row : (listed : List (List Extent)) (runs : List Extent) (answer : Answer (List (List Extent))) →
    put listed (and_then answer (λ more rest. Got (runs ∷ more) rest)) ≡ put (listed ++ (runs ∷ [])) answer
put_row listed runs (Got more left) = ap (λ (l : List (List Extent)). Got l left) (sym (append_assoc listed (runs ∷ []) more))
put_row listed runs (Refused p) = refl

-- what the rule for the parts does with the answer to the first
abbrev behind_first : Numbers → ℕ → ℕ → List Request → Answer (List Extent) → Answer (List (List Extent))
behind_first numbers start threshold left answer =
    and_then answer (λ runs l. and_then (all_runs numbers start threshold left l) (λ more rest. Got (runs ∷ more) rest))

pub put_more : (numbers : Numbers) (start threshold : ℕ) (request : Request) (left : List Request)
    (listed : List (List Extent)) (runs : List Extent) (free free' : Spaces) →
    part_runs numbers start threshold request free ≡ Got runs free' →
    put listed (all_runs numbers start threshold (request ∷ left) free)
    ≡ put (listed ++ (runs ∷ [])) (all_runs numbers start threshold left free')
put_more numbers start threshold request left listed runs free free' got =
    ap (λ (a : Answer (List Extent)). put listed (behind_first numbers start threshold left a)) got
    ∙ put_row listed runs (all_runs numbers start threshold left free')

pub put_refused : (numbers : Numbers) (start threshold p : ℕ) (request : Request) (left : List Request)
    (listed : List (List Extent)) (free : Spaces) → part_runs numbers start threshold request free ≡ Refused p →
    put listed (all_runs numbers start threshold (request ∷ left) free) ≡ Refused p
put_refused numbers start threshold p request left listed free refused =
    ap (λ (a : Answer (List Extent)). put listed (behind_first numbers start threshold left a)) refused
