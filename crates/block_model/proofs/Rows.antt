-- A worked space of 16 pages, computed by the definitions: grants of 3, 1, 5, 3 and 4 pages, and what is free after
-- two gives.
use Rattle.std.proofs.Common.{◌≡◌, true, false, ◌++◌, ◌∷◌, [], take, replicate, Some, None, refl}
use Rattle.block_model.specs.Block.{with_run}
use Rattle.block_model.specs.Directory.{directory_page}
use Rattle.block_model.specs.Place.{place, largest, hint_of, least_order}

first_three : place (replicate 16 true) 3 ≡ Some 0
unfolding place
first_three = refl

then_one : place (replicate 3 false ++ (replicate 13 true)) 1 ≡ Some 3
unfolding place
then_one = refl

then_five : place (replicate 4 false ++ (replicate 12 true)) 5 ≡ Some 8
unfolding place
then_five = refl

then_three : place (replicate 4 false ++ (replicate 4 true ++ (replicate 5 false ++ (replicate 3 true)))) 3 ≡ Some 4
unfolding place
then_three = refl

then_no_four : place (replicate 7 false ++ (replicate 1 true ++ (replicate 5 false ++ (replicate 3 true)))) 4 ≡ None
unfolding place
then_no_four = refl

largest_then : largest (replicate 7 false ++ (replicate 1 true ++ (replicate 5 false ++ (replicate 3 true)))) ≡ Some 1
unfolding largest
largest_then = refl

given_three : with_run (replicate 7 false
    ++ (replicate 1 true ++ (replicate 5 false ++ (replicate 3 true)))) 0 3 true ≡ replicate 3 true
    ++ (replicate 4 false ++ (replicate 1 true ++ (replicate 5 false ++ (replicate 3 true))))
unfolding place
given_three = refl

largest_given : largest (replicate 3 true
    ++ (replicate 4 false ++ (replicate 1 true ++ (replicate 5 false ++ (replicate 3 true))))) ≡ Some 1
unfolding largest
largest_given = refl

largest_merged : largest (replicate 4 true
    ++ (replicate 3 false ++ (replicate 1 true ++ (replicate 5 false ++ (replicate 3 true))))) ≡ Some 2
unfolding largest
largest_merged = refl

hint_merged : hint_of (replicate 4 true ++ (replicate 3 false ++ (replicate 1 true ++ (replicate 5 false ++ (replicate 3 true))))) ≡ 3
unfolding hint_of
hint_merged = refl

none_free : largest (replicate 16 false) ≡ None
unfolding largest
none_free = refl

all_free : largest (replicate 64 true) ≡ Some 6
unfolding largest
all_free = refl

all_taken : place (replicate 64 true) 64 ≡ Some 0
unfolding place
all_taken = refl

order_of_5 : least_order 5 ≡ 3
unfolding least_order
order_of_5 = refl

order_of_4 : least_order 4 ≡ 2
unfolding least_order
order_of_4 = refl

order_of_1 : least_order 1 ≡ 0
unfolding least_order
order_of_1 = refl

-- the first bytes of the directory page of space 0 after 3 pages were granted
first_directory : take 18 (directory_page 256 0 (replicate 3 false ++ replicate 13 true)) ≡ 68 ∷ 73 ∷ 82 ∷ 49 ∷ 0
    ∷ 0 ∷ 0 ∷ 0 ∷ 0 ∷ 0 ∷ 0 ∷ 13 ∷ 0 ∷ 0 ∷ 0 ∷ 0 ∷ 31 ∷ 255 ∷ []
first_directory = refl
