-- What stands under the pairs of a node, pair by pair: entries, nodes, trees.
use Rattle.std.proofs.Common.{◌≡◌, ℕ, zero, suc, List, [], ◌∷◌, ◌++◌, refl, ap, ◌∙◌}
use Rattle.std.specs.List.{AllByRecursion, flat_map}
use Rattle.std.proofs.lemmas.Grind.{flat_map-append}
use Rattle.base_laws.proofs.ListLaws.{all-append}
use Rattle.tree_model.specs.declared.entry.Pair.{Pair}
use Rattle.tree_model.specs.Tree.{Pages, pairs_on, HasNode, AreTrees, entries_under, nodes_under}

-- a list is made by a function from the lists that another makes
flat_map-twice : {A B C : Type 0} (f : B → List C) (g : A → List B) (xs : List A) →
    flat_map f (flat_map g xs) ≡ flat_map (λ x. flat_map f (g x)) xs
flat_map-twice f g [] = refl
flat_map-twice f g (x ∷ xs) = flat_map-append f (g x) (flat_map g xs) ∙ ap (λ l. flat_map f (g x) ++ l) (flat_map-twice f g xs)

-- what holds of each item of such a list holds of the items that each item makes
pub all-flat_map : {A B : Type 0} (P : B → Type 0) (g : A → List B) (xs : List A) →
    AllByRecursion P (flat_map g xs) → AllByRecursion (λ x. AllByRecursion P (g x)) xs
all-flat_map P g [] all = tt
all-flat_map P g (x ∷ xs) all = (all-front P (g x) (flat_map g xs) all, all-flat_map P g xs (all-back P (g x) (flat_map g xs) all))
  where
    all-front : {B : Type 0} (P : B → Type 0) (xs ys : List B) → AllByRecursion P (xs ++ ys) → AllByRecursion P xs
    all-front P [] ys all = tt
    all-front P (x ∷ xs) ys all = (all.0, all-front P xs ys all.1)

    all-back : {B : Type 0} (P : B → Type 0) (xs ys : List B) → AllByRecursion P (xs ++ ys) → AllByRecursion P ys
    all-back P [] ys all = all
    all-back P (x ∷ xs) ys all = all-back P xs ys all.1

-- and the other way
pub all-flatten : {A B : Type 0} (P : B → Type 0) (g : A → List B) (xs : List A) →
    AllByRecursion (λ x. AllByRecursion P (g x)) xs → AllByRecursion P (flat_map g xs)
all-flatten P g [] all = tt
all-flatten P g (x ∷ xs) all = all-append P (g x) (flat_map g xs) all.0 (all-flatten P g xs all.1)

-- the entries under pairs that a function makes
pub entries-flat_map : {A : Type 0} (at : Pages) (height : ℕ) (f : A → List Pair) (xs : List A) →
    entries_under at height (flat_map f xs) ≡ flat_map (λ x. entries_under at height (f x)) xs
entries-flat_map at zero f xs = refl
entries-flat_map at (suc height) f xs = flat_map-twice (λ (p : Pair). entries_under at height (pairs_on at p.page)) f xs

-- the nodes under them
pub nodes-flat_map : {A : Type 0} (at : Pages) (height : ℕ) (f : A → List Pair) (xs : List A) →
    nodes_under at height (flat_map f xs) ≡ flat_map (λ x. nodes_under at height (f x)) xs
nodes-flat_map at zero f xs = none xs
  where
    none : {A : Type 0} (xs : List A) → ◌≡◌ {A = List ℕ} [] (flat_map {A = ℕ} (λ (x : A). []) xs)
    none [] = refl
    none (x ∷ xs) = none xs
nodes-flat_map at (suc height) f xs = flat_map-twice (λ (p : Pair). p.page ∷ nodes_under at height (pairs_on at p.page)) f xs

-- trees under them
pub trees-flat_map : {A : Type 0} (at : Pages) (half height : ℕ) (f : A → List Pair) (xs : List A) →
    AllByRecursion (λ x. AreTrees at half height (f x)) xs → AreTrees at half height (flat_map f xs)
trees-flat_map at half zero f xs each = tt
trees-flat_map at half (suc height) f xs each =
    all-flatten (λ (p : Pair). HasNode at p.page (suc height) half p.bytes × AreTrees at half height (pairs_on at p.page)) f xs each

-- and each of them is a list of trees
pub trees-each : {A : Type 0} (at : Pages) (half height : ℕ) (f : A → List Pair) (xs : List A) →
    AreTrees at half height (flat_map f xs) → AllByRecursion (λ x. AreTrees at half height (f x)) xs
trees-each at half zero f xs trees = all-true xs
  where
    all-true : {A : Type 0} (xs : List A) → AllByRecursion (λ (x : A). Unit {0}) xs
    all-true [] = tt
    all-true (x ∷ xs) = (tt, all-true xs)
trees-each at half (suc height) f xs trees =
    all-flat_map (λ (p : Pair). HasNode at p.page (suc height) half p.bytes × AreTrees at half height (pairs_on at p.page)) f xs trees
