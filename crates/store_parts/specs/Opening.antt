-- What an opening hands out, what a closing leaves, and what stands where either was cut short.
use Rattle.std.specs.Prelude.{◌≡◌, ◌+◌, ◌*◌, Bool, IsTrue, List, length, drop}
use Rattle.geometry_model.specs.Numbers.{Numbers, pages}
use Rattle.eos_ops.specs.declared.plain.Plain.{Plain}
use Rattle.moment_model.specs.Moment.{Moment}
use Rattle.image_model.specs.Super.{version_in}
use Rattle.image_model.specs.Image.{Image, IsImage, image_pages, database_in, moment_in}
use Rattle.page_port.specs.Device.{Device, is_home}
use Rattle.store_parts.specs.Parts.{PartsView, AreParts, StandFor}
use Rattle.store_parts.specs.Pages.{HasAll, ShowParts}

-- Where the device tells: its bytes are an image, and the parts stand for its database and its
-- moment. They are just the pages that are out, and hold what stood there.
pub record IsToldOpening (before after : Device) (parts : PartsView) : Type 0 where
  pub image : IsImage before.bytes (version_in before.bytes) parts.numbers
  pub stands : StandFor (database_in parts.numbers (version_in before.bytes) before.bytes)
      (moment_in parts.numbers (version_in before.bytes) before.bytes) parts
  pub all : HasAll after parts
  pub shows : ShowParts parts (image_pages parts.numbers before.bytes)
  pub behind : after.bytes ≡ drop (pages parts.numbers * parts.numbers.page) before.bytes

-- a store was opened
pub record IsOpened (tells : Bool) (before after : Device) (parts : PartsView) : Type 0 where
  pub sound : AreParts tells parts
  pub told : IsTrue tells → IsToldOpening before after parts

-- All pages of these parts came back with what they held, and the bytes behind them are as they
-- were.
pub record AreBack (parts : PartsView) (before after : Device) : Type 0 where
  pub home : IsTrue (is_home after)
  pub count : length after.bytes ≡ pages parts.numbers * parts.numbers.page + length before.bytes
  pub behind : drop (pages parts.numbers * parts.numbers.page) after.bytes ≡ before.bytes
  pub shows : ShowParts parts (image_pages parts.numbers after.bytes)

-- A store was closed: its bytes are an image of this database and this moment in version 2, and the
-- bytes behind them are as they were.
pub record IsClosedStore (n : Numbers) (database : List Plain) (moment : Moment)
    (before after : Device) : Type 0 where
  pub home : IsTrue (is_home after)
  pub image : Image after.bytes n database moment
  pub version : version_in after.bytes ≡ 2
  pub behind : drop (pages n * n.page) after.bytes ≡ before.bytes
