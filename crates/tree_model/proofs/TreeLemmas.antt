-- Trees on pages have as many bytes as the pairs above them count.
use Rattle.std.proofs.Common.{◌≡◌, ℕ, zero, suc, ◌+◌, List, [], ◌∷◌, ◌++◌, refl, arith}
use Rattle.std.proofs.lemmas.List.Sums.{sum_by-append, sum_by-cons}
use Rattle.tree_model.specs.declared.entry.Pair.{Pair}
use Rattle.tree_model.specs.Tree.{Pages, AreTrees, HasNode, bytes_of, entries_under, pairs_on}

-- entries under the pairs of trees have the bytes of the pairs
pub bytes_of-entries_under : (at : Pages) (half height : ℕ) (pairs : List Pair) → AreTrees at half height pairs →
    bytes_of (entries_under at height pairs) ≡ bytes_of pairs
bytes_of-entries_under at half zero pairs trees = refl
bytes_of-entries_under at half (suc height) pairs trees = go (bytes_of-entries_under at half height) pairs trees
  where
    go : ((pairs : List Pair) → AreTrees at half height pairs → bytes_of (entries_under at height pairs) ≡ bytes_of pairs) →
        (pairs : List Pair) → AreTrees at half (suc height) pairs → bytes_of (entries_under at (suc height) pairs) ≡ bytes_of pairs
    go below [] trees = refl
    go below (p ∷ ps) trees =
        let parts = sum_by-append (λ (q : Pair). q.bytes) (entries_under at height (pairs_on at p.page))
        (entries_under at (suc height) ps) in
        let whole = sum_by-cons (λ (q : Pair). q.bytes) p ps in
        let here = below (pairs_on at p.page) trees.0.1 in
        let counted = trees.0.0.counted in
        let more = go below ps trees.1 in
        omega (arith, parts, whole, here, counted, more)
