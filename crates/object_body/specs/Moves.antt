-- How the spaces move with one object: from its two states, and from what the spaces were before.
use Rattle.std.specs.Prelude.{◌≡◌, ℕ, ◌<◌, Bool, false, ◌&&◌, nat_eq, nat_lt, List}
use Rattle.geometry_model.specs.Numbers.{Numbers}
use Rattle.geometry_model.specs.Pages.{IsPlace}
use Rattle.moment_model.specs.Moment.{ObjectSlot, committed_uses, working_uses, either_uses}
use Rattle.moment_laws.specs.Change.{free_after, locked_after}
use Rattle.space_directory.specs.SpaceView.{SpaceView}
use Rattle.superdirectory.specs.Rest.{Frame, Rest}
use Rattle.superdirectory.specs.Grants.{AreTold}
use Rattle.object_body.specs.Places.{AreHome, is_free_place, is_locked_place}

-- does the object alone lock the page: its committed version uses it, and neither the working one
-- nor the spare?
abbrev pub locks : Numbers → ℕ → ObjectSlot → Bool
locks n page slot = nat_lt 0 (committed_uses n page slot) && nat_eq (working_uses n page slot) 0

-- the told spaces fit the object: no page that it uses is free, and of those just the ones that
-- it locks are locked
pub record Fits (n : Numbers) (views : List SpaceView) (slot : ObjectSlot) : Type 0 where
  pub used : (page s at : ℕ) → IsPlace n page s at → 0 < either_uses n page slot → is_free_place views s at ≡ false
  pub locked : (page s at : ℕ) → IsPlace n page s at → 0 < either_uses n page slot →
      is_locked_place views s at ≡ locks n page slot

-- which pages are free and which locked follows from those that were, and from the object's two
-- states
pub record Moves (n : Numbers) (before : List SpaceView) (old new : ObjectSlot)
    (after : List SpaceView) : Type 0 where
  pub free : (page s at : ℕ) → IsPlace n page s at →
      is_free_place after s at ≡ free_after n page (is_free_place before s at) old new
  pub locked : (page s at : ℕ) → IsPlace n page s at →
      is_locked_place after s at ≡ locked_after n page (is_locked_place before s at) old new

-- the spaces are told and at home again, and moved with the object where they fitted it
pub record MovesTold (n : Numbers) (frame : Frame) (before : List SpaceView)
    (old new : ObjectSlot) (rest : Rest) : Type 0 where
  pub after : List SpaceView
  pub told : AreTold rest after
  pub home : AreHome frame after
  pub moves : Fits n before old → Moves n before old new after

-- the spaces are told and at home again, and have the same free and the same locked pages
pub record IsUntouched (n : Numbers) (frame : Frame) (before : List SpaceView)
    (rest : Rest) : Type 0 where
  pub after : List SpaceView
  pub told : AreTold rest after
  pub home : AreHome frame after
  pub free : (page s at : ℕ) → IsPlace n page s at →
      is_free_place after s at ≡ is_free_place before s at
  pub locked : (page s at : ℕ) → IsPlace n page s at →
      is_locked_place after s at ≡ is_locked_place before s at
