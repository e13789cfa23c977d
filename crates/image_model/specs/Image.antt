-- An image: bytes that show a store. Its pages are of their forms, each present object has a
-- tree, and each data page is either free in its directory or used just once. What it shows: a
-- moment, and a database.
use Rattle.std.specs.Prelude.{◌≡◌, ℕ, ◌*◌, ◌<◌, ◌≤◌, Bool, IsTrue, Some, None, List, length, map}
use Rattle.std.specs.Prelude.{if◌then◌else◌}
use Rattle.std.specs.List.{range_with_len}
use Rattle.geometry_model.specs.Numbers.{Numbers, pages, objects, space_pages}
use Rattle.geometry_model.specs.Pages.{directory_page, data_page}
use Rattle.eos_ops.specs.declared.plain.Plain.{Plain}
use Rattle.tree_model.specs.Tree.{Pages, IsTreeOf, entries_of}
use Rattle.block_model.specs.Block.{has_page}
use Rattle.block_model.specs.Directory.{directory_page as directory_bytes}
use Rattle.layout_model.specs.Pack.{Packed}
use Rattle.moment_model.specs.Moment.{Moment, all_committed}
use Rattle.tree_pages.specs.Entry.{Entry}
use Rattle.tree_pages.specs.Levels.{version_at, slot_at_rest, plain_at}
use Rattle.image_model.specs.Super.{image_page, version_in, IsSuper}
use Rattle.image_model.specs.Directory.{free_bits}
use Rattle.image_model.specs.Catalog.{entry_at, entry_in, entry_bytes, is_entry}

-- the pages of these bytes
abbrev pub image_pages : Numbers → List ℕ → Pages
image_pages n bytes page = image_page n.page bytes page

-- the free pages of space s by its directory
abbrev pub free_of_space : Numbers → List ℕ → ℕ → List Bool
free_of_space n bytes s = free_bits n (image_page n.page bytes (directory_page n s))

-- what the catalog says of object o
abbrev pub object_entry : Numbers → ℕ → List ℕ → ℕ → Entry
object_entry n version bytes o = entry_in n version (entry_at n bytes o)

-- The moment and the database that an image shows. Both versions of each object are those of the
-- image.
unfoldable pub moment_in : Numbers → ℕ → List ℕ → Moment
moment_in n version bytes =
    map (λ o. slot_at_rest (version_at (image_pages n bytes) (object_entry n version bytes o)))
    (range_with_len 0 (objects n))

unfoldable pub database_in : Numbers → ℕ → List ℕ → List Plain
database_in n version bytes =
    map (λ o. plain_at (image_pages n bytes) n.page (object_entry n version bytes o))
    (range_with_len 0 (objects n))

-- a present object has a tree on the pages, and of two neighbouring segments one at least has as
-- many pages as its threshold
abbrev pub HasTree : Numbers → Pages → Entry → Type 0
HasTree n at None = Unit {0}
HasTree n at (Some present) =
    IsTreeOf n at present.root (entries_of at present.root.height present.root.page)
    × Packed n.page present.threshold (entries_of at present.root.height present.root.page)

-- the bytes are an image of these numbers, in this version
pub record IsImage (bytes : List ℕ) (version : ℕ) (n : Numbers) : Type 0 where
  pub super : IsSuper bytes version n
  pub size : pages n * n.page ≤ length bytes
  pub directories : (s : ℕ) → s < n.spaces →
      image_page n.page bytes (directory_page n s)
      ≡ directory_bytes n.page s (free_of_space n bytes s)
  pub entries : (o : ℕ) → o < objects n →
      entry_at n bytes o ≡ entry_bytes version (object_entry n version bytes o)
  pub allowed : (o : ℕ) → o < objects n → IsTrue (is_entry n (object_entry n version bytes o))
  pub trees : (o : ℕ) → o < objects n →
      HasTree n (image_pages n bytes) (object_entry n version bytes o)
  pub used : (s at : ℕ) → s < n.spaces → at < space_pages n →
      all_committed n (data_page n s at) (moment_in n version bytes)
      ≡ (if has_page (free_of_space n bytes s) at then 0 else 1)

-- the bytes are an image of these numbers, this database and this moment, in one of the two
-- versions
pub record Image (bytes : List ℕ) (n : Numbers) (database : List Plain)
    (moment : Moment) : Type 0 where
  pub image : IsImage bytes (version_in bytes) n
  pub shows : database ≡ database_in n (version_in bytes) bytes
  pub stands : moment ≡ moment_in n (version_in bytes) bytes
