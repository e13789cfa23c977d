-- The spaces of one thread: all of them in their places, or one entered and away.
use Rattle.std.specs.Prelude.{◌≡◌, ℕ, ◌≤◌, List, [], ◌∷◌, ◌++◌, length, map, slice_get, slice_set}
use Rattle.std.specs.Prelude.{slice_index_or, Option, Some, None}
use Rattle.block_model.specs.Place.{hint_of}
use Rattle.space_directory.specs.SpaceView.{SpaceView, IsSpace}
use Rattle.superdirectory.specs.Rest.{Frame, Rest, IsOf}

-- the page size and the pages of each space, where each begins, the spaces, their hints, and the
-- number of the one that is entered
pub record SoloView : Type 0 where
  pub page : ℕ
  pub pages : ℕ
  pub firsts : List ℕ
  pub spaces : List (Option SpaceView)
  pub hints : List ℕ
  pub entered : Option ℕ

-- it is a seat of no table
abbrev pub frame_of : SoloView → Frame
frame_of solo = record { table = None; page = solo.page; pages = solo.pages; firsts = solo.firsts }

-- it tells its spaces
abbrev pub rest_of : SoloView → Rest
rest_of solo = record { frame = frame_of solo; spaces = Some solo.spaces; entered = solo.entered }

-- the spaces when the one at s was taken out of a row and the last one put in its place: that one
-- is the last again, and at s there is none
abbrev pub with_gap : List (Option SpaceView) → ℕ → List (Option SpaceView)
with_gap others s = slice_set (others ++ slice_index_or others s None ∷ []) s None

-- the spaces, of which these are not away
abbrev pub spaces_of : Option ℕ → List SpaceView → List (Option SpaceView)
spaces_of None others = map Some others
spaces_of (Some s) others = with_gap (map Some others) s

-- the space at s is a space of that number, on the run of s, and its hint is exact
pub record IsAtHome (solo : SoloView) (s : ℕ) (v : SpaceView) : Type 0 where
  pub space : IsSpace v
  pub home : IsOf (frame_of solo) s v
  pub hint : slice_get solo.hints s ≡ Some (hint_of v.free)

-- there are at most 256 spaces, each at home but the entered one
pub record AreSoloSpaces (solo : SoloView) : Type 0 where
  pub most : length solo.firsts ≤ 256
  pub spaces : length solo.spaces ≡ length solo.firsts
  pub hints : length solo.hints ≡ length solo.firsts
  pub home : (s : ℕ) (v : SpaceView) → slice_get solo.spaces s ≡ Some (Some v) → IsAtHome solo s v
  pub away : (s : ℕ) → slice_get solo.spaces s ≡ Some None → solo.entered ≡ Some s

-- the spaces stand in the order of their numbers, from 0 on, and are of one page size and one order
pub record AreAlike (page pages : ℕ) (spaces : List SpaceView) : Type 0 where
  pub numbered : (s : ℕ) (v : SpaceView) → slice_get spaces s ≡ Some v → v.number ≡ s
  pub sized : (s : ℕ) (v : SpaceView) → slice_get spaces s ≡ Some v → v.page ≡ page
  pub count : (s : ℕ) (v : SpaceView) → slice_get spaces s ≡ Some v → length v.free ≡ pages

-- these spaces, none of them entered, with their hints
abbrev pub solo_of : ℕ → ℕ → List SpaceView → SoloView
solo_of page pages spaces = record {
  page = page;
  pages = pages;
  firsts = map (λ v. v.first) spaces;
  spaces = map Some spaces;
  hints = map (λ v. hint_of v.free) spaces;
  entered = None;
}
