-- What comes of the spaces where pages are granted for a change, or refused.
use Rattle.std.specs.Prelude.{◌≡◌, ℕ, ◌*◌, ◌<◌, ◌≤◌, ◌&&◌, true, false, List, nat_eq}
use Rattle.std.specs.Prelude.{Result, Ok, Err}
use Rattle.geometry_model.specs.Numbers.{Numbers}
use Rattle.geometry_model.specs.Pages.{IsPlace}
use Rattle.layout_model.specs.declared.extent.Extent.{Extent}
use Rattle.layout_model.specs.Grants.{Answer, Got, Refused}
use Rattle.moment_model.specs.Version.{uses}
use Rattle.space_directory.specs.SpaceView.{SpaceView}
use Rattle.superdirectory.specs.Grants.{AreTold, free_sets}
use Rattle.superdirectory.specs.Rest.{Frame, Rest}
use Rattle.superdirectory.specs.Trace.{SpaceEvent}
use Rattle.object_body.specs.declared.fails.EditFail.{EditFail}
use Rattle.object_body.specs.declared.fails.EditFail.TheVariants.{NoSpace, Fault, Memory}
use Rattle.object_body.specs.Calls.{AreLow}
use Rattle.object_body.specs.Moves.{IsUntouched}
use Rattle.object_body.specs.Places.{AreHome, is_free_place, is_locked_place}

-- the told spaces are at home again without these pages, which were free there and not locked
pub record AreTakenOut (n : Numbers) (frame : Frame) (granted : List Extent)
    (before : List SpaceView) (rest : Rest) : Type 0 where
  pub after : List SpaceView
  pub told : AreTold rest after
  pub home : AreHome frame after
  pub were : (page s at : ℕ) → IsPlace n page s at → 0 < uses page granted →
      (is_free_place before s at ≡ true) × (is_locked_place before s at ≡ false)
  pub free : (page s at : ℕ) → IsPlace n page s at →
      is_free_place after s at ≡ (nat_eq (uses page granted) 0 && is_free_place before s at)
  pub locked : (page s at : ℕ) → IsPlace n page s at →
      is_locked_place after s at ≡ is_locked_place before s at

-- what was granted, or refused, is what the rule of grants says, and leaves what it says
abbrev pub IsGrantAnswer : {A B : Type 0} → (A → B) → Answer B → Rest → Result A EditFail → Type 0
IsGrantAnswer given answer rest (Ok a) =
    (after : List SpaceView) × AreTold rest after × (answer ≡ Got (given a) (free_sets after))
IsGrantAnswer given answer rest (Err (NoSpace pages)) = answer ≡ Refused pages
IsGrantAnswer given answer rest (Err Fault) = Unit {0}
IsGrantAnswer given answer rest (Err Memory) = Unit {0}

-- the told spaces are without what was granted, or untouched after a refusal
abbrev pub HaveGranted : {A : Type 0} → (A → List Extent) → Numbers → Frame → List SpaceView →
    Rest → Result A EditFail → Type 0
HaveGranted runs n frame views rest (Ok a) = AreTakenOut n frame (runs a) views rest
HaveGranted runs n frame views rest (Err fail) = IsUntouched n frame views rest

-- where there was no space, every one was found low for what was refused
abbrev pub IsLowFor : {A : Type 0} → ℕ → Result A EditFail → List SpaceEvent → Type 0
IsLowFor spaces (Ok a) part = Unit {0}
IsLowFor spaces (Err (NoSpace pages)) part = AreLow spaces pages part
IsLowFor spaces (Err Fault) part = Unit {0}
IsLowFor spaces (Err Memory) part = Unit {0}

-- a page or more are refused, fewer than twice the threshold
abbrev pub IsFewRefused : {A : Type 0} → ℕ → Result A EditFail → Type 0
IsFewRefused threshold (Ok a) = Unit {0}
IsFewRefused threshold (Err (NoSpace pages)) = (1 ≤ pages) × (pages < 2 * threshold)
IsFewRefused threshold (Err Fault) = Unit {0}
IsFewRefused threshold (Err Memory) = Unit {0}
