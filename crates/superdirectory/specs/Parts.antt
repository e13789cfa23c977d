-- What asking for a part by halves grants, and what it leaves.
use Rattle.std.specs.Prelude.{◌≡◌, ℕ, ◌+◌, ◌-◌, ◌*◌, ◌/◌, ◌<◌, ◌≤◌, min, Bool, true, false, List}
use Rattle.std.specs.Prelude.{[], ◌∷◌, ◌++◌, length, map, take, drop, sum_by, slice_index}
use Rattle.std.specs.Prelude.{slice_get}
use Rattle.std.specs.Prelude.{slice_set, Option, Some, None}
use Rattle.std.specs.List.{AllByRecursion}
use Rattle.geometry_model.specs.Numbers.{Numbers}
use Rattle.geometry_model.specs.Pages.{first_page}
use Rattle.page_port.specs.Pages.{run}
use Rattle.block_model.specs.Block.{HasRun}
use Rattle.block_model.specs.Place.{least_order}
use Rattle.layout_model.specs.declared.extent.Extent.{Extent}
use Rattle.layout_model.specs.Grants.{Spaces, Answer, Got, Refused, halved}
use Rattle.space_directory.specs.SpaceView.{SpaceView, IsSpace, after_grant}
use Rattle.superdirectory.specs.Trace.{SpaceEvent, IsLow, IsSearched, AreEnters}
use Rattle.superdirectory.specs.Rest.{Frame, Rest, count}
use Rattle.superdirectory.specs.Grants.{AreTold, free_sets, AreRunsIn}

-- each space begins where the numbers of the store say
abbrev pub IsLaid : Numbers → List ℕ → Type 0
IsLaid numbers firsts = (s : ℕ) → s < length firsts → slice_index firsts s ≡ first_page numbers s

-- the pages of a list of runs, each its first page and its pages
abbrev pub extents : {A : Type 0} → (A → ℕ) → (A → List (List ℕ)) → List A → List Extent
extents first pages runs = map (λ run. record { page = first run; pages = length (pages run) }) runs

-- the answer that stands for these runs with the free pages that they left, or for a refusal of p
-- pages
abbrev pub outcome : Option ℕ → List Extent → Spaces → Answer (List Extent)
outcome None runs left = Got runs left
outcome (Some p) runs left = Refused p

-- the told spaces once all runs of a list were granted, the first run first: each was free in its
-- space, and holds what it held there
abbrev pub IsTakenAll : {A : Type 0} → (A → ℕ) → (A → ℕ) → (A → List (List ℕ)) → List SpaceView →
    List A → List SpaceView → Type 0
IsTakenAll space first pages before [] after = after ≡ before
IsTakenAll space first pages before (one ∷ runs) after =
    (v : SpaceView) × (slice_get before (space one) ≡ Some v) × IsSpace v
    × HasRun v.free (first one - v.first) (length (pages one))
    × (pages one ≡ run (first one - v.first) (length (pages one)) v.held)
    × IsTakenAll space first pages (slice_set before (space one)
    (after_grant v (first one - v.first) (length (pages one)))) runs after

-- the told spaces are without the runs; the answer is the refusal, or has the pages that they
-- left free; and where the store is laid out as its numbers say, the extents of the answer are the
-- runs
pub record AnswersHalved {A : Type 0} (space first : A → ℕ) (pages : A → List (List ℕ))
    (views : List SpaceView) (laid : Type 0) (answer : Answer (List Extent)) (refusal : Option ℕ)
    (runs : List A) (new : Rest) : Type 0 where
  pub after : List SpaceView
  pub taken : IsTakenAll space first pages views runs after
  pub told : AreTold new after
  pub listed : List Extent
  pub same : answer ≡ outcome refusal listed (free_sets after)
  pub matched : laid → listed ≡ extents first pages runs

-- p pages were asked for n pages at this threshold, and not cut
pub record IsUncut (n threshold p : ℕ) : Type 0 where
  pub some : 1 ≤ p
  pub part : p ≤ n
  pub small : p < 2 * threshold

-- the pieces of n pages: they lie in their spaces, have n pages together, and the threshold's
-- each where n is as many
pub record ArePieces {A : Type 0} (space first : A → ℕ) (pages : A → List (List ℕ)) (tells : Bool)
    (frame : Frame) (n threshold : ℕ) (pieces : List A) : Type 0 where
  pub runs : AreRunsIn space first pages tells frame pieces
  pub whole : sum_by (λ piece. length (pages piece)) pieces ≡ n
  pub least : AllByRecursion (λ piece. min n threshold ≤ length (pages piece)) pieces

-- What asking for n pages appends to a list: from place `from` on their pieces, behind what stood
-- there. The list keeps its room.
pub record AppendsPieces {A : Type 0} (space first : A → ℕ) (pages : A → List (List ℕ))
    (tells : Bool) (frame : Frame) (n threshold from room room' : ℕ)
    (had has : List A) : Type 0 where
  pub kept : room' ≡ room
  pub front : take from has ≡ had
  pub pieces : ArePieces space first pages tells frame n threshold (drop from has)

-- What a refusal of p pages leaves, of n that were asked for: they were not cut, and the list, its
-- room and the told spaces are as before.
pub record LeavesAll {A : Type 0} (n threshold p room room' : ℕ) (had has : List A)
    (old new : Rest) : Type 0 where
  pub uncut : IsUncut n threshold p
  pub kept : room' ≡ room
  pub list : has ≡ had
  pub untouched : (views : List SpaceView) → AreTold old views → length views ≡ count old →
      AreTold new views

-- The looks and enters of asking for n pages by halves, one search of all spaces for each grant
-- that `halved` of `layout_model` makes, in its order: one for all n pages; where they were
-- refused, and are twice the threshold or more, those for the larger half and, once that was
-- granted, those for the other half.
pub data AreSearches (threshold count : ℕ) : ℕ → Option ℕ → List SpaceEvent → Type 0 where
  placed : (n : ℕ) (part : List SpaceEvent) → IsSearched (least_order n) 0 count false part →
      AreSearches threshold count n None part
  uncut : (n : ℕ) (part : List SpaceEvent) → n < 2 * threshold →
      IsSearched (least_order n) 0 count true part →
      AreSearches threshold count n (Some n) part
  half_refused : (n p : ℕ) (whole first : List SpaceEvent) → 2 * threshold ≤ n →
      IsSearched (least_order n) 0 count true whole →
      AreSearches threshold count ((n + 1) / 2) (Some p) first →
      AreSearches threshold count n (Some p) (whole ++ first)
  halves : (n : ℕ) (refusal : Option ℕ) (whole first second : List SpaceEvent) →
      2 * threshold ≤ n → IsSearched (least_order n) 0 count true whole →
      AreSearches threshold count ((n + 1) / 2) None first →
      AreSearches threshold count (n / 2) refusal second →
      AreSearches threshold count n refusal (whole ++ (first ++ second))

-- the looks and enters of all grants: the searches for n pages and their halves, each space
-- visited once at most in each and entered only after a look that showed room for what it asks;
-- where p pages were refused, each space was found low for them
pub record IsAsked (n threshold count : ℕ) (refusal : Option ℕ)
    (part : List SpaceEvent) : Type 0 where
  pub searches : AreSearches threshold count n refusal part
  pub low : (p : ℕ) → refusal ≡ Some p → (space : ℕ) → space < count →
      IsLow space (least_order p) part

-- the looks and enters of all grants and, after a refusal alone, those that give the pieces back
pub record IsAskedAll (n threshold count : ℕ) (refusal : Option ℕ)
    (part : List SpaceEvent) : Type 0 where
  pub asked : List SpaceEvent
  pub given : List SpaceEvent
  pub both : part ≡ asked ++ given
  pub grants : IsAsked n threshold count refusal asked
  pub gives : AreEnters given
  pub none : refusal ≡ None → given ≡ []

-- the list has the pieces that were granted so far: all of them, or those before a refusal
pub record AddsPieces {A : Type 0} (space first : A → ℕ) (pages : A → List (List ℕ))
    (tells : Bool) (frame : Frame) (start n threshold : ℕ) (refusal : Option ℕ) (old new : Rest)
    (had has : List A) : Type 0 where
  pub pieces : List A
  pub added : has ≡ had ++ pieces
  pub runs : AreRunsIn space first pages tells frame pieces
  pub least : AllByRecursion (λ piece. min n threshold ≤ length (pages piece)) pieces
  pub whole : refusal ≡ None → sum_by (λ piece. length (pages piece)) pieces ≡ n
  pub refused : (p : ℕ) → refusal ≡ Some p → IsUncut n threshold p
  pub told : (numbers : Numbers) (steps : ℕ) (views : List SpaceView) → n ≤ steps →
      AreTold old views → length views ≡ length frame.firsts →
      AnswersHalved space first pages views (IsLaid numbers frame.firsts)
      (halved steps numbers start threshold n (free_sets views)) refusal pieces new
