-- The spans that a space owns: those of its free pages, one a slot.
use Rattle.std.specs.Prelude.{◌≡◌, ℕ, ◌+◌, ◌<◌, Bool, true, false, List, length, Option, Some, None}
use Rattle.page_port.specs.Pages.{IsSized}
use Rattle.block_model.specs.Block.{has_page}
use Rattle.space_directory.specs.Slots.{span_in, pages_held}
use Rattle.space_directory.specs.SpaceView.{SpaceView, IsSpace}

-- the slot of a free page has its span, with told bytes of the page size, and that of any other
-- page has none
abbrev pub IsSlot : {X : Type 0} → (X → ℕ) → (X → List (List ℕ)) → Bool → ℕ → ℕ → Bool →
    Option X → Type 0
IsSlot start contents tells size page true None = ⊥
IsSlot start contents tells size page true (Some span) = (start span ≡ page)
    × (length (contents span) ≡ 1) × IsSized tells size (contents span)
IsSlot start contents tells size page false None = Unit {0}
IsSlot start contents tells size page false (Some span) = ⊥

-- the slots have just the spans of the free pages
pub record HoldsFree {X : Type 0} (start : X → ℕ) (contents : X → List (List ℕ)) (tells : Bool)
    (size first : ℕ) (free : List Bool) (slots : List (Option X)) : Type 0 where
  pub count : length slots ≡ length free
  pub each : (at : ℕ) → at < length free →
      IsSlot start contents tells size (first + at) (has_page free at) (span_in slots at)

-- no page before place `low` is free
abbrev pub HasNoneBefore : List Bool → ℕ → Type 0
HasNoneBefore free low = (page : ℕ) → page < low → has_page free page ≡ false

-- a space owns just the spans of its free pages, and tells what they hold
pub record OwnsFree {X : Type 0} (start : X → ℕ) (contents : X → List (List ℕ)) (tells : Bool)
    (v : SpaceView) (slots : List (Option X)) : Type 0 where
  pub sound : IsSpace v
  pub holds : HoldsFree start contents tells v.page v.first v.free slots
  pub told : v.held ≡ pages_held contents slots
