-- What an entry of the crate is to the definitions of an image.
use Rattle.std.specs.Prelude.{◌<◌, ◌^◌, Some, None}
use Rattle.tree_pages.specs.Entry.{Entry}
use Rattle.image_format.specs.declared.entry.CatalogEntry.{CatalogEntry}
use Rattle.image_format.specs.declared.entry.CatalogEntry.TheVariants.{Absent, Present}

-- a present object has its root and its threshold, and an absent one nothing
abbrev pub model_entry : CatalogEntry → Entry
model_entry Absent = None
model_entry (Present height root length threshold) = Some (record {
  root = record { height = height; page = root; length = length };
  threshold = threshold;
})

-- the numbers of an entry fit their places
abbrev pub HasRoom : Entry → Type 0
HasRoom None = Unit {0}
HasRoom (Some present) =
    (present.root.page < 2 ^ 32) × (present.root.length < 2 ^ 64) × (present.threshold < 2 ^ 16)
