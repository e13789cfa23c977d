-- What a node's page reads back as: its level and its pairs, so no two nodes have the same page.
use Rattle.std.proofs.Common.{◌≡◌, ℕ, ◌+◌, ◌-◌, ◌*◌, ◌^◌, ◌<◌, List, [], ◌∷◌, ◌++◌, length, drop, replicate}
use Rattle.std.proofs.Common.{slice_index, refl, ap, ◌∙◌, append_assoc}
use Rattle.std.specs.List.{AllByRecursion, flat_map}
use Rattle.std.specs.Int.{w16, from_be_bytes}
use Rattle.std.proofs.lemmas.Nat.{from_be_bytes-to_be_bytes_2, from_be_bytes-to_be_bytes_4, from_be_bytes-to_be_bytes_8}
use Rattle.tree_model.specs.declared.entry.Pair.{Pair}
use Rattle.tree_model.specs.Node.{IsPair, NodeBytes, pair_bytes, head_bytes, pair_in, pairs_in, node_in}

-- a pair takes 12 bytes
pub length-pair_bytes : (p : Pair) → length (pair_bytes p) ≡ 12
unfolding pair_bytes
length-pair_bytes p = refl

-- the head takes 8 bytes
pub length-head_bytes : (level count : ℕ) → length (head_bytes level count) ≡ 8
unfolding head_bytes
length-head_bytes level count = refl

-- a pair is read back from its bytes
pub pair_in-pair_bytes : (p : Pair) (rest : List ℕ) → IsPair p → pair_in (pair_bytes p ++ rest) ≡ p
unfolding pair_bytes pair_in
pair_in-pair_bytes p rest fits =
    let count = from_be_bytes-to_be_bytes_8 p.bytes fits.count_fits in
    let page = from_be_bytes-to_be_bytes_4 p.page fits.page_fits in
    rw (count, page) refl

-- what follows a pair's bytes
pub drop-pair_bytes : (p : Pair) (rest : List ℕ) → drop 12 (pair_bytes p ++ rest) ≡ rest
unfolding pair_bytes
drop-pair_bytes p rest = refl

-- pairs are read back from their bytes
pub pairs_in-flat_map : (ps : List Pair) (rest : List ℕ) → AllByRecursion IsPair ps
    → pairs_in (length ps) (flat_map pair_bytes ps ++ rest) ≡ ps
pairs_in-flat_map [] rest each = refl
pairs_in-flat_map (p ∷ ps) rest each =
    let more = flat_map pair_bytes ps ++ rest in
    let first = pair_in-pair_bytes p more each.0 in
    let behind = drop-pair_bytes p more in
    let others = pairs_in-flat_map ps rest each.1 in
    rw (append_assoc (pair_bytes p) (flat_map pair_bytes ps) rest, first, behind, others) refl

-- the level and the count are read back from the head, and the rest stands behind it
level-head : (level count : ℕ) (rest : List ℕ) → slice_index (head_bytes level count ++ rest) 1 ≡ level
unfolding head_bytes
level-head level count rest = refl

count-head : (level count : ℕ) (rest : List ℕ) → count < 2 ^ 16
    → from_be_bytes w16 (drop 2 (head_bytes level count ++ rest)) ≡ count
unfolding head_bytes
count-head level count rest fits = from_be_bytes-to_be_bytes_2 count fits

pub drop-head : (level count : ℕ) (rest : List ℕ) → drop 8 (head_bytes level count ++ rest) ≡ rest
unfolding head_bytes
drop-head level count rest = refl

-- a node is read back from its page
pub node_in-level : (page : List ℕ) (level : ℕ) (pairs : List Pair) → NodeBytes page level pairs
    → (node_in page).level ≡ level
unfolding node_in
node_in-level page level pairs h = rw h.bytes (level-head level (length pairs) _)

pub node_in-pairs : (page : List ℕ) (level : ℕ) (pairs : List Pair) → NodeBytes page level pairs
    → (node_in page).pairs ≡ pairs
unfolding node_in
node_in-pairs page level pairs h =
    let tail = replicate (length page - (8 + 12 * length pairs)) 0 in
    let rest = flat_map pair_bytes pairs ++ tail in
    let count = count-head level (length pairs) rest h.sound.count_fits in
    let behind = drop-head level (length pairs) rest in
    let same : page ≡ head_bytes level (length pairs) ++ rest = h.bytes in
    let read = ap (λ (b : List ℕ). pairs_in (from_be_bytes w16 (drop 2 b)) (drop 8 b)) same in
    read ∙ rw (count, behind) (pairs_in-flat_map pairs tail h.sound.each)
