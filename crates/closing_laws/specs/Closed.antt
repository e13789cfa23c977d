-- What stands on the pages of a store that is closed: the superblock, the catalog, the directories
-- and the nodes. What its segments hold is left to who wrote it.
use Rattle.std.specs.Prelude.{◌≡◌, ℕ, ◌*◌, ◌<◌, ◌≤◌, Some, None, List, length}
use Rattle.geometry_model.specs.Numbers.{Numbers, pages, objects}
use Rattle.geometry_model.specs.Pages.{directory_page}
use Rattle.block_model.specs.Directory.{directory_page as directory_bytes}
use Rattle.tree_model.specs.Tree.{Pages}
use Rattle.moment_model.specs.Version.{Version}
use Rattle.moment_model.specs.Moment.{Moment, object_slot, free_in}
use Rattle.tree_pages.specs.Entry.{Entry}
use Rattle.tree_pages.specs.Stored.{AreStored, root_of}
use Rattle.image_model.specs.Super.{image_page, IsSuper}
use Rattle.image_model.specs.Catalog.{entry_at, entry_bytes}
use Rattle.image_model.specs.Image.{image_pages}

-- the entry of a version: the root of its levels, and its threshold
abbrev pub version_entry : Version → Entry
version_entry None = None
version_entry (Some tree) = Some (record {
  root = root_of tree.levels;
  threshold = tree.threshold;
})

-- each node of a version stands on its page
abbrev pub IsStored : Pages → Version → Type 0
IsStored at None = Unit {0}
IsStored at (Some tree) = AreStored at 1 tree.levels

-- The bytes are the pages of a store that is closed at this moment.
pub record IsClosedAt (n : Numbers) (moment : Moment) (bytes : List ℕ) : Type 0 where
  -- all pages of the store are there
  pub size : pages n * n.page ≤ length bytes
  -- page 0 begins with the superblock of the store's numbers
  pub super : IsSuper (image_page n.page bytes 0) 2 n
  -- the catalog has the entries of the committed versions
  pub entries : (o : ℕ) → o < objects n →
      entry_at n bytes o ≡ entry_bytes 2 (version_entry (object_slot moment o).committed)
  -- each directory page has the free pages of its space
  pub directories : (s : ℕ) → s < n.spaces →
      image_page n.page bytes (directory_page n s)
      ≡ directory_bytes n.page s (free_in n moment s)
  -- each node of a committed version is on its page
  pub nodes : (o : ℕ) → o < objects n →
      IsStored (image_pages n bytes) (object_slot moment o).committed
