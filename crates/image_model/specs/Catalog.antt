-- The catalog: an entry of 16 bytes for each object, on the catalog pages read one after the other.
use Rattle.std.specs.Prelude.{ℕ, ◌+◌, ◌*◌, Bool, true, ◌&&◌, Option, Some, None, List, ◌∷◌, ◌++◌}
use Rattle.std.specs.Prelude.{take, drop, replicate, nat_eq, nat_le, nat_lt, slice_index}
use Rattle.std.specs.Prelude.{if◌then◌else◌}
use Rattle.std.specs.Int.{w16, w32, w64, to_be_bytes, from_be_bytes}
use Rattle.std.specs.Str.{bytes_eq}
use Rattle.geometry_model.specs.Numbers.{Numbers, space_pages}
use Rattle.tree_model.specs.declared.tree.Root.{Root}
use Rattle.tree_pages.specs.Entry.{Present, Entry}

-- the bytes of an entry. Version 1 keeps no threshold
unfoldable pub entry_bytes : ℕ → Entry → List ℕ
entry_bytes version None = replicate 16 0
entry_bytes version (Some present) =
    1 ∷ present.root.height ∷ (to_be_bytes w16 (if nat_eq version 2 then present.threshold else 0)
    ++ (to_be_bytes w32 present.root.page ++ to_be_bytes w64 present.root.length))

-- an object of height 0 has root 0 and length 0, another one a byte or more
abbrev pub is_root : Root → Bool
is_root root =
    if nat_eq root.height 0 then nat_eq root.page 0 && nat_eq root.length 0 else nat_lt 0
    root.length

-- a threshold is at most half of a space
abbrev pub is_threshold : Numbers → ℕ → Bool
is_threshold n threshold = nat_le 1 threshold && nat_le (2 * threshold) (space_pages n)

-- may an entry say this?
abbrev pub is_entry : Numbers → Entry → Bool
is_entry n None = true
is_entry n (Some present) = is_root present.root && is_threshold n present.threshold

-- the entry that these bytes say; in version 1 an object has the store's threshold
unfoldable pub entry_in : Numbers → ℕ → List ℕ → Entry
entry_in n version bytes =
    if nat_eq (slice_index bytes 0) 0 then None
    else Some (record {
      root = record {
        height = slice_index bytes 1;
        page = from_be_bytes w32 (drop 4 bytes);
        length = from_be_bytes w64 (drop 8 bytes);
      };
      threshold = if nat_eq version 2 then from_be_bytes w16 (drop 2 bytes) else n.threshold;
    })

-- the bytes of entry o of an image
abbrev pub entry_at : Numbers → List ℕ → ℕ → List ℕ
entry_at n bytes o = take 16 (drop (n.page + 16 * o) bytes)

-- are these bytes an entry?
abbrev pub has_entry : Numbers → ℕ → List ℕ → Bool
has_entry n version bytes =
    bytes_eq bytes (entry_bytes version (entry_in n version bytes)) && is_entry n
    (entry_in n version bytes)
