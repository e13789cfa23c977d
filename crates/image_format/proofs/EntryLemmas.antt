-- An entry read place by place, and the bytes of an entry read back.
use Rattle.std.proofs.Common.{◌≡◌, ℕ, false, Some, None, List, refl, drop}
use Rattle.std.specs.Prelude.{nat_eq, slice_index, if◌then◌else◌}
use Rattle.std.specs.Int.{w16, w32, w64, from_be_bytes}
use Rattle.std.proofs.lemmas.Bool.{ne_eqb}
use Rattle.std.proofs.lemmas.Nat.{from_be_bytes-to_be_bytes_2, from_be_bytes-to_be_bytes_4, from_be_bytes-to_be_bytes_8}
use Rattle.geometry_model.specs.Numbers.{Numbers}
use Rattle.tree_pages.specs.Entry.{Entry}
use Rattle.image_model.specs.Catalog.{entry_bytes, entry_in}
use Rattle.image_format.specs.Entries.{HasRoom}

-- bytes that begin with 0 say that there is no object
pub entry_in-absent : (n : Numbers) (version : ℕ) (bytes : List ℕ) → slice_index bytes 0 ≡ 0 → entry_in n version bytes ≡ None
unfolding entry_in
entry_in-absent n version bytes first = rw first refl

-- and others say its root and its threshold
pub entry_in-present : (n : Numbers) (version : ℕ) (bytes : List ℕ) → (slice_index bytes 0 ≡ 0 → ⊥) →
    entry_in n version bytes ≡ Some (record {
      root = record {
        height = slice_index bytes 1;
        page = from_be_bytes w32 (drop 4 bytes);
        length = from_be_bytes w64 (drop 8 bytes);
      };
      threshold = if nat_eq version 2 then from_be_bytes w16 (drop 2 bytes) else n.threshold;
    })
unfolding entry_in
entry_in-present n version bytes other =
    let no : nat_eq (slice_index bytes 0) 0 ≡ false = ne_eqb (slice_index bytes 0) 0 other in rw no refl

-- the bytes of an entry say that entry
pub entry_in-entry_bytes : (n : Numbers) (entry : Entry) → HasRoom entry → entry_in n 2 (entry_bytes 2 entry) ≡ entry
unfolding entry_in entry_bytes
entry_in-entry_bytes n None room = refl
entry_in-entry_bytes n (Some present) room =
    let page = from_be_bytes-to_be_bytes_4 present.root.page room.0 in
    let bytes = from_be_bytes-to_be_bytes_8 present.root.length room.1 in
    let threshold = from_be_bytes-to_be_bytes_2 present.threshold room.2 in
    rw (page, bytes, threshold) refl
