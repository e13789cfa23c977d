-- A set of pages as a bitmap: eight pages a byte, the first of them its highest bit.
use Rattle.std.specs.Prelude.{ℕ, zero, suc, ◌+◌, ◌/◌, ◌%◌, Bool, if◌then◌else◌, nat_eq, List, []}
use Rattle.std.specs.Prelude.{◌∷◌, drop}
use Rattle.std.specs.List.{flat_map}
use Rattle.block_model.specs.Block.{has_page}

-- what a page that is in the set adds to its byte
abbrev pub weight_of : Bool → ℕ → ℕ
weight_of is_in weight = if is_in then weight else 0

-- the byte of the first eight pages
abbrev pub byte_of : List Bool → ℕ
byte_of pages =
    weight_of (has_page pages 0) 128 + weight_of (has_page pages 1) 64 + weight_of
    (has_page pages 2) 32 + weight_of (has_page pages 3) 16
    + weight_of (has_page pages 4) 8 + weight_of (has_page pages 5) 4 + weight_of
    (has_page pages 6) 2 + weight_of (has_page pages 7) 1

-- the first n bytes of the bitmap of a set
abbrev pub packed : ℕ → List Bool → List ℕ
packed zero pages = []
packed (suc n) pages = byte_of pages ∷ packed n (drop 8 pages)

-- the eight pages of a byte
abbrev pub pages_of : ℕ → List Bool
pages_of byte =
    nat_eq (byte / 128 % 2) 1 ∷ nat_eq (byte / 64 % 2) 1 ∷ nat_eq (byte / 32 % 2) 1
    ∷ nat_eq (byte / 16 % 2) 1
    ∷ nat_eq (byte / 8 % 2) 1 ∷ nat_eq (byte / 4 % 2) 1 ∷ nat_eq (byte / 2 % 2) 1
    ∷ nat_eq (byte % 2) 1 ∷ []

-- the set of a bitmap
abbrev pub unpacked : List ℕ → List Bool
unpacked bytes = flat_map pages_of bytes
