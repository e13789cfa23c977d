-- A new working version that stands beside the old one, before the pages of the old one go.
use Rattle.std.specs.Prelude.{◌≡◌, ℕ, ◌<◌, ◌≤◌, Bool, false, not, ◌&&◌, ◌||◌, IsTrue, Option, None}
use Rattle.std.specs.Prelude.{IfSome, List, true}
use Rattle.geometry_model.specs.Numbers.{Numbers}
use Rattle.geometry_model.specs.Pages.{IsPlace}
use Rattle.layout_model.specs.declared.extent.Extent.{Extent}
use Rattle.let_go_laws.specs.LetGo.{is_dropped}
use Rattle.moment_model.specs.Moment.{ObjectSlot, working_uses}
use Rattle.moment_model.specs.Version.{IsGood}
use Rattle.moment_laws.specs.ByObject.{IsSoundSlot}
use Rattle.change_laws.specs.Tail.{IsTail}
use Rattle.tree_pages.specs.Entry.{Entry}
use Rattle.tree_pages.specs.Levels.{version_at}
use Rattle.tree_pages.specs.Stored.{StaysOn}
use Rattle.page_set.specs.Members.{Keeps}
use Rattle.page_set.specs.Words.{in_set, room_in}
use Rattle.span_store.specs.Held.{bytes_on, has}
use Rattle.space_directory.specs.SpaceView.{SpaceView}
use Rattle.superdirectory.specs.Grants.{AreTold}
use Rattle.superdirectory.specs.Rest.{Frame, Rest}
use Rattle.tree_read.specs.Search.{KeepsNodes}
use Rattle.object_body.specs.Places.{AreHome, is_free_place, is_locked_place}
use Rattle.object_body.specs.Stored.{IsThreshold, StandsOn}
use Rattle.object_state.specs.Tree.{TreeView, tree_slot}
use Rattle.object_state.specs.Keeps.{IsMarked, in_spare}
use Rattle.object_state.specs.Drops.{CanDrop, Stock}

-- the slot with a new working version and spare, as the pages show them
abbrev pub slot_beside : TreeView → Stock → Entry → Option Extent → ObjectSlot
slot_beside v s working spare = record {
  committed = (tree_slot v).committed;
  working = version_at (bytes_on s.held) working;
  spare = spare;
}

-- The pages are told: the committed version stays, the new working one stands on them and is sound
-- with it, and its spare behind it. It uses each page that was granted, and else only pages that the
-- old one or its spare used; and those that it doesn't use any more are to go.
pub record IsToldBeside (n : Numbers) (v : TreeView) (made : ℕ → Bool) (s : Stock) (working : Entry)
    (spare : Option Extent) (gone : ℕ → Bool) : Type 0 where
  pub stays : StaysOn n (tree_slot v).committed (bytes_on v.held) (bytes_on s.held)
  pub stands : StandsOn n (bytes_on s.held) working
  pub sound : IsSoundSlot IsGood n (slot_beside v s working spare)
  pub tail : IsTail n (version_at (bytes_on s.held) working) spare
  pub used : (page : ℕ) → IsTrue (made page) →
      0 < working_uses n page (slot_beside v s working spare)
  pub within : (page : ℕ) → 0 < working_uses n page (slot_beside v s working spare) →
      made page ≡ false → 0 < working_uses n page (tree_slot v)
  pub gone_is : (page : ℕ) → gone page
      ≡ is_dropped n page (tree_slot v) (slot_beside v s working spare)

-- What holds before the pages of the old working version go, over every device: the object owns
-- what it owned and the pages that were made for the new version, which are fresh; and the new spare
-- and the pages that are to go stand in spans of their own, for which there is room among the locked
-- ones.
pub record StandsBeside (tells : Bool) (v : TreeView) (made : ℕ → Bool) (s : Stock) (working : Entry)
    (spare : Option Extent) (gone : ℕ → Bool) : Type 0 where
  pub can_drop : CanDrop tells v.numbers s
  pub nodes : KeepsNodes tells v.numbers.page (bytes_on s.held) s.cache
  pub holds : (page : ℕ) → has s.held page ≡ (made page || has v.held page)
  pub lacked : (page : ℕ) → IsTrue (made page) → has v.held page ≡ false
  pub fresh_is : (page : ℕ) → in_set s.fresh page ≡ (made page || in_set v.fresh page)
  pub locked_is : (page : ℕ) → in_set s.locked page ≡ in_set v.locked page
  pub locked_marked : IsMarked s.held (in_set s.locked)
  pub gone_marked : IsMarked s.held gone
  pub gone_room : Keeps gone (room_in s.locked)
  pub spare_marked : IsMarked s.held (in_spare spare)
  pub spare_some : IfSome spare (λ run. 1 ≤ run.pages)
  pub spare_there : working ≡ None → spare ≡ None
  pub spare_fresh : (page : ℕ) → IsTrue (in_spare spare page) →
      IsTrue (in_set s.fresh page) × (gone page ≡ false)
  pub threshold : IfSome working (λ present. IsThreshold v.numbers present.threshold)
  pub told : IsTrue tells → IsToldBeside v.numbers v made s working spare gone

-- the told spaces are at home again without these pages, which were free there
pub record AreTaken (n : Numbers) (frame : Frame) (made : ℕ → Bool) (before : List SpaceView)
    (rest : Rest) : Type 0 where
  pub between : List SpaceView
  pub told : AreTold rest between
  pub home : AreHome frame between
  pub were : (page s at : ℕ) → IsPlace n page s at → IsTrue (made page) →
      is_free_place before s at ≡ true
  pub free : (page s at : ℕ) → IsPlace n page s at →
      is_free_place between s at ≡ (not (made page) && is_free_place before s at)
  pub locked : (page s at : ℕ) → IsPlace n page s at →
      is_locked_place between s at ≡ is_locked_place before s at
