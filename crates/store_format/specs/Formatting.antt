-- What formatting makes of a device that tells its bytes.
use Rattle.std.specs.Prelude.{◌≡◌, ℕ, ◌*◌, ◌⊎◌, IsTrue, None, List, length}
use Rattle.geometry_model.specs.Numbers.{Numbers, pages}
use Rattle.page_port.specs.Device.{Device, is_home, resized}
use Rattle.image_model.specs.Super.{version_in}
use Rattle.image_model.specs.Image.{Image, image_pages}
use Rattle.image_model.specs.Checks.{first_refusal}
use Rattle.store_format.specs.Writing.{IsStoreWritten, IsCutShort}
use Rattle.store_format.specs.Blank.{blank_directory, blank_front, blank_moment, blank_database}

-- the bytes of a store
abbrev pub store_bytes : Numbers → ℕ
store_bytes n = pages n * n.page

-- The bytes are an image of an empty store, in version 2, and no more. Its data pages hold what
-- stood there, or zeros where the device had no such page.
pub record IsFormatted (n : Numbers) (old new : List ℕ) : Type 0 where
  pub size : length new ≡ store_bytes n
  pub image : Image new n (blank_database n) (blank_moment n)
  pub version : version_in new ≡ 2
  pub opens : first_refusal new ≡ None
  pub written : IsStoreWritten n (blank_directory n) (blank_front n)
      (image_pages n (resized (store_bytes n) old)) (image_pages n new)

-- A format that failed while it wrote: the size is the store's, and the superblock and the catalog
-- were written last.
pub record IsHalfFormatted (n : Numbers) (old new : List ℕ) : Type 0 where
  pub size : length new ≡ store_bytes n
  pub written : IsCutShort n (blank_directory n)
      (image_pages n (resized (store_bytes n) old)) (image_pages n new)

-- what a format that failed leaves: the bytes as they were, or written in part
abbrev pub IsUnformatted : Numbers → List ℕ → List ℕ → Type 0
IsUnformatted n old new = (new ≡ old) ⊎ IsHalfFormatted n old new
