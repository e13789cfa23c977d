-- The superblock, the first 256 bytes of an image: mark, version, and the numbers of the store.
-- Numbers of several bytes have the highest first, here and on every page.
use Rattle.std.specs.Prelude.{◌≡◌, ℕ, ◌*◌, Bool, ◌&&◌, ◌||◌, List, ◌∷◌, ◌++◌, take, drop}
use Rattle.std.specs.Prelude.{replicate, codes, nat_eq, slice_index, IsTrue}
use Rattle.std.specs.Int.{w16, w32, to_be_bytes, from_be_bytes}
use Rattle.std.specs.Str.{bytes_eq}
use Rattle.geometry_model.specs.Numbers.{Numbers, IsInRange, is_in_range}

-- the bytes of page number `page`
abbrev pub image_page : ℕ → List ℕ → ℕ → List ℕ
image_page size bytes page = take size (drop (page * size) bytes)

abbrev pub mark : List ℕ
mark = codes "EOSBUDDY"

-- version 2 keeps a threshold for each object, version 1 none
abbrev pub is_version : ℕ → Bool
is_version version = nat_eq version 1 || nat_eq version 2

-- the superblock of a version and these numbers; the kind of objects, byte 17, is 0
unfoldable pub super_bytes : ℕ → Numbers → List ℕ
super_bytes version n =
    mark ++ (to_be_bytes w32 version ++ (to_be_bytes w32 n.page ++ (n.order ∷ 0 ∷ (
    to_be_bytes w16 n.spaces ++ (to_be_bytes w16 n.catalog
    ++ (to_be_bytes w16 n.threshold ++ replicate 232 0))))))

-- the version that stands there, and the numbers
abbrev pub version_in : List ℕ → ℕ
version_in bytes = from_be_bytes w32 (drop 8 bytes)

unfoldable pub numbers_in : List ℕ → Numbers
numbers_in bytes = record {
  page = from_be_bytes w32 (drop 12 bytes);
  order = slice_index bytes 16;
  spaces = from_be_bytes w16 (drop 18 bytes);
  catalog = from_be_bytes w16 (drop 20 bytes);
  threshold = from_be_bytes w16 (drop 22 bytes);
}

-- the bytes begin with the superblock of this version and these numbers
pub record IsSuper (bytes : List ℕ) (version : ℕ) (n : Numbers) : Type 0 where
  pub known : IsTrue (is_version version)
  pub in_range : IsInRange n
  pub begins : take 256 bytes ≡ super_bytes version n

-- the tests of the three checks
abbrev pub has_mark : List ℕ → Bool
has_mark bytes = bytes_eq (take 8 bytes) mark

abbrev pub has_numbers : List ℕ → Bool
has_numbers bytes =
    is_in_range (numbers_in bytes)
    && (nat_eq (slice_index bytes 17) 0 && bytes_eq (take 232 (drop 24 bytes)) (replicate 232 0))
