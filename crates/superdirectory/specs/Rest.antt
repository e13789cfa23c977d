-- What an object that reaches the spaces stands for beside its looks, and what its calls make of
-- it.
use Rattle.std.specs.Prelude.{◌≡◌, ℕ, ◌<◌, List, length, slice_index, slice_get, slice_set, Option}
use Rattle.std.specs.Prelude.{Some, None, option_map}
use Rattle.atomic_table.specs.Seated.{TableId}
use Rattle.block_model.specs.Place.{hint_of}
use Rattle.space_directory.specs.SpaceView.{SpaceView}

-- The frame stays the same over all calls: the table where this is a seat of one, the bytes of a
-- page, and the spaces, all of `pages` pages, by the first page of each.
pub record Frame : Type 0 where
  pub table : Option TableId
  pub page : ℕ
  pub pages : ℕ
  pub firsts : List ℕ

-- The spaces are told or not; where they are, the space that is entered is away. `entered` is its
-- number.
pub record Rest : Type 0 where
  pub frame : Frame
  pub spaces : Option (List (Option SpaceView))
  pub entered : Option ℕ

-- how many spaces there are
abbrev pub count : Rest → ℕ
count rest = length rest.frame.firsts

-- the space with number s is entered, and away
pub record IsAway (rest : Rest) (s : ℕ) : Type 0 where
  pub there : s < count rest
  pub entered : rest.entered ≡ Some s

-- the space has number s, lies on the run of s and has pages of this size
pub record IsOf (frame : Frame) (s : ℕ) (v : SpaceView) : Type 0 where
  pub number : v.number ≡ s
  pub first : v.first ≡ slice_index frame.firsts s
  pub page : v.page ≡ frame.page
  pub pages : length v.free ≡ frame.pages

-- the space at s was entered, and is away
abbrev pub entering : Rest → ℕ → Rest
entering rest s = record rest {
  spaces =
      option_map (λ spaces. slice_set spaces s None) rest.spaces;
  entered = Some s;
}

-- the space at s was left, as v
abbrev pub leaving : Rest → ℕ → SpaceView → Rest
leaving rest s v = record rest {
  spaces =
      option_map (λ spaces. slice_set spaces s (Some v)) rest.spaces;
  entered = None;
}

-- the hints once the space at s was left with these free pages
abbrev pub hints_after : Option (List ℕ) → ℕ → SpaceView → Option (List ℕ)
hints_after hints s v = option_map (λ hs. slice_set hs s (hint_of v.free)) hints

-- the told space at s
abbrev pub IsSpaceTold : Rest → ℕ → SpaceView → Type 0
IsSpaceTold rest s v = (spaces : List (Option SpaceView)) × (rest.spaces ≡ Some spaces)
    × (slice_get spaces s ≡ Some (Some v))
