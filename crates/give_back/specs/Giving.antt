-- Runs of pages that are given back: what is held without them, and what becomes of their spaces.
use Rattle.std.specs.Prelude.{◌≡◌, ℕ, ◌+◌, ◌<◌, ◌≤◌, Bool, false, not, ◌&&◌, ◌||◌, IsTrue, List}
use Rattle.std.specs.Prelude.{None, Option, nat_lt, if◌then◌else◌}
use Rattle.std.specs.List.{AllByRecursion}
use Rattle.geometry_model.specs.Numbers.{Numbers}
use Rattle.geometry_model.specs.Pages.{IsPlace, is_data_page}
use Rattle.layout_model.specs.declared.extent.Extent.{Extent}
use Rattle.moment_model.specs.Version.{uses}
use Rattle.moment_laws.specs.Granting.{LiesInSpace}
use Rattle.space_directory.specs.SpaceView.{SpaceView}
use Rattle.superdirectory.specs.Grants.{AreTold, KeepsFrame}
use Rattle.superdirectory.specs.Rest.{Frame, Rest}
use Rattle.superdirectory.specs.Trace.{SpaceEvent, Part, AreEnters}
use Rattle.span_store.specs.Held.{Held, AllSized, HoldsRun, begins, bytes_on, has, page_at}
use Rattle.page_cache.specs.Kept.{KeptNodes}
use Rattle.tree_read.specs.Search.{KeepsNodes}
use Rattle.object_body.specs.Places.{AreHome, is_free_place, is_locked_place}

-- no page
abbrev pub none_marked : ℕ → Bool
none_marked page = false

-- a page of either set
abbrev pub or_page : (ℕ → Bool) → (ℕ → Bool) → ℕ → Bool
or_page one two page = one page || two page

-- which pages are given back to their spaces, which are unlocked there, and which are locked
pub record Ways : Type 0 where
  pub given : ℕ → Bool
  pub unlocked : ℕ → Bool
  pub locked : ℕ → Bool

-- these pages are given back, and nothing else
abbrev pub gives : (ℕ → Bool) → Ways
gives test = record { given = test; unlocked = none_marked; locked = none_marked }

-- is the page one of these runs?
abbrev pub is_in_runs : List Extent → ℕ → Bool
is_in_runs runs page = nat_lt 0 (uses page runs)

-- each page of the run is a data page of the store
abbrev pub AreDataPages : Numbers → ℕ → ℕ → Type 0
AreDataPages n first pages =
    (page : ℕ) → first ≤ page → page < first + pages → IsTrue (is_data_page n page)

-- the pages of a run are held, in spans of their own
pub record IsWholeRun (held : Held) (first pages : ℕ) : Type 0 where
  pub some : 1 ≤ pages
  pub holds : HoldsRun held first pages
  pub from : IsTrue (begins held first)
  pub to : IsTrue (has held (first + pages)) → IsTrue (begins held (first + pages))

-- so it is with an extent
abbrev pub IsOwnRun : Held → Extent → Type 0
IsOwnRun held run = IsWholeRun held run.page run.pages

-- Runs can be given back: each lies in one space and is held, in spans of its own, and no page is
-- in two of them.
pub record CanGiveRuns (n : Numbers) (held : Held) (runs : List Extent) : Type 0 where
  pub lie : AllByRecursion (LiesInSpace n) runs
  pub own : AllByRecursion (IsOwnRun held) runs
  pub once : (page : ℕ) → uses page runs ≤ 1

-- The told spaces are at home again: the given pages are free and not locked, the unlocked ones not
-- locked, those that are locked are so where they weren't free, and all others are as they were.
pub record AreLetGo (n : Numbers) (frame : Frame) (ways : Ways) (before : List SpaceView)
    (rest : Rest) : Type 0 where
  pub after : List SpaceView
  pub told : AreTold rest after
  pub home : AreHome frame after
  pub free : (page s at : ℕ) → IsPlace n page s at →
      is_free_place after s at ≡ (ways.given page || is_free_place before s at)
  pub locked : (page s at : ℕ) → IsPlace n page s at →
      is_locked_place after s at
      ≡ ((ways.locked page && not (is_free_place before s at))
      || (not (ways.given page || ways.unlocked page) && is_locked_place before s at))

-- spaces are entered alone, and these pages go these ways there
pub record LetsGo (n : Numbers) (ways : Ways) (old new : Rest)
    (before after : Option (List SpaceEvent)) : Type 0 where
  pub rest : KeepsFrame old new
  pub enters : Part AreEnters before after
  pub spaces : (views : List SpaceView) → AreTold old views → AreHome old.frame views →
      AreLetGo n old.frame ways views new

-- these pages are held no more, and the others as they were, in the same spans
pub record IsLeft (gone : ℕ → Bool) (old new : Held) : Type 0 where
  pub pages : (q : ℕ) → page_at new q ≡ (if gone q then None else page_at old q)
  pub begun : (q : ℕ) → gone q ≡ false → begins new q ≡ begins old q

-- the pages that are left are of the store's size
pub record LeavesSized (tells : Bool) (size : ℕ) (gone : ℕ → Bool) (old new : Held)
    : Type 0 where
  pub left : IsLeft gone old new
  pub sized : AllSized tells size old → AllSized tells size new

-- and the nodes that are kept are still those of held pages
pub record LeavesNodes (tells : Bool) (size : ℕ) (gone : ℕ → Bool) (old new : Held)
    (before after : KeptNodes) : Type 0 where
  pub spans : LeavesSized tells size gone old new
  pub nodes : KeepsNodes tells size (bytes_on old) before →
      KeepsNodes tells size (bytes_on new) after
