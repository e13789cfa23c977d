-- A node of a tree, and the bytes of the page that it stands on.
use Rattle.std.specs.Prelude.{◌≡◌, ℕ, zero, suc, ◌+◌, ◌-◌, ◌*◌, ◌/◌, ◌^◌, ◌<◌, ◌≤◌, List, [], ◌∷◌}
use Rattle.std.specs.Prelude.{◌++◌, length, drop, replicate, slice_index}
use Rattle.std.specs.List.{AllByRecursion, flat_map}
use Rattle.std.specs.Int.{w16, w32, w64, to_be_bytes, from_be_bytes}
use Rattle.tree_model.specs.declared.entry.Pair.{Pair}

-- a node: its level, counted from 1 at the bottom, and its pairs in order
pub record Node : Type 0 where
  pub level : ℕ
  pub pairs : List Pair

-- the pairs that a page of this size has room for
abbrev pub room_of : ℕ → ℕ
room_of size = (size - 8) / 12

-- a pair that a node may have: at least one byte, in numbers of 8 and 4 bytes
pub record IsPair (p : Pair) : Type 0 where
  pub some : 1 ≤ p.bytes
  pub count_fits : p.bytes < 2 ^ 64
  pub page_fits : p.page < 2 ^ 32

-- a node that a page of this size can hold: it has a level and a pair at least, and room for all
pub record IsNode (size level : ℕ) (pairs : List Pair) : Type 0 where
  pub low : 1 ≤ level
  pub high : level < 256
  pub some : 1 ≤ length pairs
  pub room : 8 + 12 * length pairs ≤ size
  pub count_fits : length pairs < 2 ^ 16
  pub each : AllByRecursion IsPair pairs

-- a pair in 12 bytes: its count in 8 and its page in 4, the highest byte first
unfoldable pub pair_bytes : Pair → List ℕ
pair_bytes p = to_be_bytes w64 p.bytes ++ to_be_bytes w32 p.page

-- the first 8 bytes: the mark 4e, the level, the number of pairs in 2 bytes, and four zeros
unfoldable pub head_bytes : ℕ → ℕ → List ℕ
head_bytes level count = 78 ∷ level ∷ to_be_bytes w16 count ++ replicate 4 0

-- the page of a node: the head, the pairs, and zeros up to its end
abbrev pub node_bytes : ℕ → ℕ → List Pair → List ℕ
node_bytes size level pairs =
    head_bytes level (length pairs) ++ (flat_map pair_bytes pairs
    ++ replicate (size - (8 + 12 * length pairs)) 0)

-- the page holds this node, every byte of it
pub record NodeBytes (page : List ℕ) (level : ℕ) (pairs : List Pair) : Type 0 where
  pub sound : IsNode (length page) level pairs
  pub bytes : page ≡ node_bytes (length page) level pairs

-- the pair in the first 12 of these bytes
unfoldable pub pair_in : List ℕ → Pair
pair_in bytes = record { bytes = from_be_bytes w64 bytes; page = from_be_bytes w32 (drop 8 bytes) }

-- the first pairs in these bytes, so many of them
abbrev pub pairs_in : ℕ → List ℕ → List Pair
pairs_in zero bytes = []
pairs_in (suc n) bytes = pair_in bytes ∷ pairs_in n (drop 12 bytes)

-- the node on a page, read place by place; it says nothing where the page holds none
unfoldable pub node_in : List ℕ → Node
node_in page = record {
  level = slice_index page 1;
  pairs = pairs_in (from_be_bytes w16 (drop 2 page)) (drop 8 page);
}

-- the page holds a node
abbrev pub HoldsNode : List ℕ → Type 0
HoldsNode page = NodeBytes page (node_in page).level (node_in page).pairs
