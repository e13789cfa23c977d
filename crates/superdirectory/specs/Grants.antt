-- What a grant over many spaces gives, and what it leaves.
use Rattle.std.specs.Prelude.{◌≡◌, ℕ, ◌+◌, ◌-◌, ◌<◌, ◌≤◌, Bool, List, [], ◌∷◌, length, map}
use Rattle.std.specs.Prelude.{take, slice_index, slice_get, slice_set, Option, Some, None}
use Rattle.page_port.specs.Pages.{IsSized, run}
use Rattle.layout_model.specs.Grants.{Spot}
use Rattle.space_directory.specs.SpaceView.{SpaceView, IsSpace, after_grant, after_give}
use Rattle.superdirectory.specs.Trace.{SpaceEvent, Part, IsEntered}
use Rattle.superdirectory.specs.Rest.{Frame, Rest, count, IsOf}

-- the told spaces are these, and none is away
abbrev pub AreTold : Rest → List SpaceView → Type 0
AreTold rest views = rest.spaces ≡ Some (map Some views)

-- which pages are free in each space
abbrev pub free_sets : List SpaceView → List (List Bool)
free_sets views = map (λ v. v.free) views

-- A grant of n pages, from a space on, may be asked for: there is that space, none is entered, and
-- n is at least one page and at most as many as a space has.
pub record IsGrantFrom (rest : Rest) (start n : ℕ) : Type 0 where
  pub there : start < count rest
  pub none : rest.entered ≡ None
  pub some : 1 ≤ n
  pub fits : n ≤ rest.frame.pages

-- nothing but the spaces changed, and none is entered
pub record KeepsFrame (old new : Rest) : Type 0 where
  pub frame : new.frame ≡ old.frame
  pub entered : new.entered ≡ None

-- the n pages lie in one space, and have its page size
pub record IsSegmentIn (frame : Frame) (n space start : ℕ) (pages : List (List ℕ))
    (tells : Bool) : Type 0 where
  pub named : space < length frame.firsts
  pub from : slice_index frame.firsts space ≤ start
  pub to : start + n ≤ slice_index frame.firsts space + frame.pages
  pub count : length pages ≡ n
  pub sized : IsSized tells frame.page pages

-- the spaces without the n pages that a grant took at a spot, where a space stood, and what these
-- pages held there
pub record IsTakenAt (frame : Frame) (views : List SpaceView) (spot : Spot) (n : ℕ)
    (pages : List (List ℕ)) (after : List SpaceView) : Type 0 where
  pub was : SpaceView
  pub here : slice_get views spot.space ≡ Some was
  pub sound : IsSpace was
  pub home : IsOf frame spot.space was
  pub held : pages ≡ run spot.at n was.held
  pub now : after ≡ slice_set views spot.space (after_grant was spot.at n)

-- The pages are those of the first of the visited spaces that has a place: the result is its
-- number, the first page and what the pages hold, which is what that space told, and the told
-- spaces lose them. Or no visited space has a place, and the told spaces are the very same.
abbrev pub IsExact : List SpaceView → ℕ → Option Spot → Frame → Option (ℕ × (ℕ × List (List ℕ))) →
    Rest → Type 0
IsExact views n None frame result new = (result ≡ None) × AreTold new views
IsExact views n (Some spot) frame result new =
    (pages : List (List ℕ)) × (result
    ≡ Some (spot.space, (slice_index frame.firsts spot.space + spot.at, pages)))
    × ((after : List SpaceView) × IsTakenAt frame views spot n pages after × AreTold new after)

-- n pages from `first` on, at least one, lie in this space
pub record IsRunIn (frame : Frame) (space first n : ℕ) : Type 0 where
  pub named : space < length frame.firsts
  pub some : 1 ≤ n
  pub from : slice_index frame.firsts space ≤ first
  pub to : first + n ≤ slice_index frame.firsts space + frame.pages

-- the told spaces are as before, but for one that is what the function makes of it
pub record IsChanged (views : List SpaceView) (space : ℕ) (change : SpaceView → SpaceView)
    (new : Rest) : Type 0 where
  pub was : SpaceView
  pub here : slice_get views space ≡ Some was
  pub now : AreTold new (slice_set views space (change was))

-- One space was entered, used and left, and nothing else changed: that is the call's part of the
-- trace, and the told spaces are as before, but for that one, which is what the function makes of
-- it.
pub record UsesSpace (space : ℕ) (change : SpaceView → SpaceView) (old new : Rest)
    (before after : Option (List SpaceEvent)) : Type 0 where
  pub rest : KeepsFrame old new
  pub trace : Part (IsEntered space) before after
  pub told : (views : List SpaceView) → AreTold old views → length views ≡ count old →
      IsChanged views space change new

-- the runs of a list, each a space, its first page and its pages, lie in their spaces
abbrev pub AreRunsIn : {A : Type 0} → (A → ℕ) → (A → ℕ) → (A → List (List ℕ)) → Bool → Frame →
    List A → Type 0
AreRunsIn space first pages tells frame [] = Unit {0}
AreRunsIn space first pages tells frame (run ∷ runs) =
    IsRunIn frame (space run) (first run) (length (pages run))
    × IsSized tells frame.page (pages run) × AreRunsIn space first pages tells frame runs

-- a list is cut to its first elements, those before place `from`, and keeps its room
pub record IsCutTo {A : Type 0} (from room room' : ℕ) (had has : List A) : Type 0 where
  pub front : has ≡ take from had
  pub kept : room' ≡ room

-- the told spaces once all runs of a list were given to theirs, the last run first
abbrev pub IsGivenAll : {A : Type 0} → (A → ℕ) → (A → ℕ) → (A → List (List ℕ)) → List SpaceView →
    List A → List SpaceView → Type 0
IsGivenAll space first pages before [] after = after ≡ before
IsGivenAll space first pages before (run ∷ runs) after =
    (between : List SpaceView) × IsGivenAll space first pages before runs between
    × ((v : SpaceView) × (slice_get between (space run) ≡ Some v)
    × (after ≡ slice_set between (space run)
    (after_give v (first run - v.first) (pages run))))
