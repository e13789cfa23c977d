-- Which page of a store is where while the store is open, and what it holds there.
use Rattle.std.specs.Prelude.{◌≡◌, ℕ, ◌<◌, true, IsTrue, List, [], map, count_by, replicate}
use Rattle.std.specs.Prelude.{slice_get, slice_index_or, Some, None, if◌then◌else◌}
use Rattle.geometry_model.specs.Numbers.{pages}
use Rattle.geometry_model.specs.Pages.{directory_page, IsPlace}
use Rattle.tree_model.specs.Tree.{Pages}
use Rattle.page_port.specs.Device.{Device}
use Rattle.span_store.specs.Held.{bytes_on, has}
use Rattle.space_directory.specs.SpaceView.{SpaceView}
use Rattle.object_body.specs.Places.{is_free_place}
use Rattle.store_format.specs.Writing.{front_count}
use Rattle.store_parts.specs.Fixed.{front_held, directory_held}
use Rattle.store_parts.specs.Parts.{PartsView, StoredView}

-- what the space of this number tells of the page at a place of it
abbrev pub held_place : List SpaceView → ℕ → ℕ → List ℕ
held_place spaces s at = slice_index_or (slice_index_or (map (λ v. v.held) spaces) s []) at []

-- how many objects hold a page
abbrev pub holders : PartsView → ℕ → ℕ
holders parts page = count_by (λ x. has x.pages page) parts.objects

-- each data page is just once in the parts: it is free in its space, or else one object holds it
abbrev pub ArePartsOnce : PartsView → Type 0
ArePartsOnce parts = (page s at : ℕ) → IsPlace parts.numbers page s at →
    holders parts page ≡ (if is_free_place parts.spaces s at then 0 else 1)

-- Just the pages of the parts are out of the device: those are all pages of the store, each once.
pub record HasAll (device : Device) (parts : PartsView) : Type 0 where
  pub mounted : device.mounted ≡ Some parts.numbers.page
  pub out : device.pages ≡ replicate (pages parts.numbers) None
  pub once : ArePartsOnce parts

-- These pages hold what the parts hold.
pub record ShowParts (parts : PartsView) (at : Pages) : Type 0 where
  pub front : (page : ℕ) → page < front_count parts.numbers →
      at page ≡ front_held parts.fixed page
  pub directories : (s : ℕ) → s < parts.numbers.spaces →
      at (directory_page parts.numbers s) ≡ directory_held parts.fixed s
  pub free : (page s place : ℕ) → IsPlace parts.numbers page s place →
      is_free_place parts.spaces s place ≡ true → at page ≡ held_place parts.spaces s place
  pub held : (o page : ℕ) (x : StoredView) → slice_get parts.objects o ≡ Some x →
      IsTrue (has x.pages page) → at page ≡ bytes_on x.pages page
