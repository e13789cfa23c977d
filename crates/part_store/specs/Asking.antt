-- What asking for the pages of parts grants, part after part, and what it leaves.
use Rattle.std.specs.Prelude.{◌≡◌, ℕ, ◌+◌, ◌*◌, ◌/◌, ◌<◌, ◌≤◌, ◌⊎◌, min, Bool, List, [], ◌∷◌}
use Rattle.std.specs.Prelude.{◌++◌, length, map, take, drop, sum, Option, Some, None}
use Rattle.std.specs.List.{AllByRecursion}
use Rattle.geometry_model.specs.Numbers.{Numbers}
use Rattle.block_model.specs.Place.{least_order}
use Rattle.layout_model.specs.declared.request.Request.{Request}
use Rattle.layout_model.specs.declared.extent.Extent.{Extent}
use Rattle.layout_model.specs.Grants.{Answer, Got, Refused, and_then, part_runs, all_runs}
use Rattle.space_directory.specs.SpaceView.{SpaceView}
use Rattle.superdirectory.specs.Trace.{SpaceEvent, IsLow}
use Rattle.superdirectory.specs.Rest.{Frame, Rest, count}
use Rattle.superdirectory.specs.Grants.{AreTold, AreRunsIn, free_sets}
use Rattle.superdirectory.specs.Parts.{IsLaid, IsTakenAll, AnswersHalved, extents}
use Rattle.part_store.specs.declared.granted.AskFail.{AskFail}
use Rattle.part_store.specs.declared.granted.AskFail.TheVariants.{NoSpace, Memory}

-- a part needs a page or more and wishes no fewer, and a space has as many
pub record IsAskable (pages : ℕ) (request : Request) : Type 0 where
  pub some : 1 ≤ request.need
  pub wish : request.need ≤ request.want
  pub fits : request.want ≤ pages

-- parts may be asked for from a space on: there is that space, and none is entered
pub record MayAsk (rest : Rest) (start : ℕ) (requests : List Request) : Type 0 where
  pub there : start < count rest
  pub none : rest.entered ≡ None
  pub each : AllByRecursion (IsAskable rest.frame.pages) requests

-- the pages of a part's pieces, in their order: the wish in one piece, or together the need, and
-- then none has fewer than the threshold or the need
abbrev pub AreRowsOf : ℕ → Request → List ℕ → Type 0
AreRowsOf threshold request sizes = (sizes ≡ request.want ∷ [])
    ⊎ ((sum sizes ≡ request.need) × AllByRecursion (λ n. min request.need threshold ≤ n) sizes)

-- so it is of each part and its row
abbrev pub AreOfAll : ℕ → List Request → List (List ℕ) → Type 0
AreOfAll threshold [] [] = Unit {0}
AreOfAll threshold [] (row ∷ rows) = ⊥
AreOfAll threshold (request ∷ requests) [] = ⊥
AreOfAll threshold (request ∷ requests) (row ∷ rows) =
    AreRowsOf threshold request row × AreOfAll threshold requests rows

-- a list cut into rows of so many elements
abbrev pub rows : {A : Type 0} → List ℕ → List A → List (List A)
rows [] items = []
rows (n ∷ counts) items = take n items ∷ rows counts (drop n items)

-- the runs of all parts lie in their spaces, and their rows, of so many runs each, are of the parts
pub record AreRuns {A : Type 0} (space first : A → ℕ) (pages : A → List (List ℕ)) (tells : Bool)
    (frame : Frame) (threshold : ℕ) (requests : List Request) (counts : List ℕ)
    (runs : List A) : Type 0 where
  pub inside : AreRunsIn space first pages tells frame runs
  pub whole : sum counts ≡ length runs
  pub parts : AreOfAll threshold requests (rows counts (map (λ run. length (pages run)) runs))

-- The told spaces are without the runs. The rule for all parts gives as many pages as they have,
-- and leaves the pages that are free now; where the store is laid out as its numbers say, it gives
-- the very runs.
pub record AreRunsOf {A : Type 0} (space first : A → ℕ) (pages : A → List (List ℕ))
    (views : List SpaceView) (laid : Type 0) (answer : Answer (List (List Extent)))
    (counts : List ℕ) (runs : List A) (new : Rest) : Type 0 where
  pub after : List SpaceView
  pub taken : IsTakenAll space first pages views runs after
  pub told : AreTold new after
  pub listed : List (List Extent)
  pub same : answer ≡ Got listed (free_sets after)
  pub matched : laid → listed ≡ rows counts (extents first pages runs)

-- nothing is taken from the told spaces
abbrev pub LeavesTold : Rest → Rest → Type 0
LeavesTold old new =
    (views : List SpaceView) → AreTold old views → length views ≡ count old → AreTold new views

-- p pages were refused that weren't cut, and the rule for all parts refuses them
pub record IsRefusedFor (start threshold p : ℕ) (requests : List Request)
    (old : Rest) : Type 0 where
  pub some : 1 ≤ p
  pub small : p < 2 * threshold
  pub due : (numbers : Numbers) (views : List SpaceView) → AreTold old views →
      length views ≡ count old →
      all_runs numbers start threshold requests (free_sets views) ≡ Refused p

-- the pages that were refused in one piece
abbrev pub pages_refused : AskFail → Option ℕ
pages_refused (NoSpace p) = Some p
pages_refused Memory = None

-- where pages were refused, each space was found low for them
abbrev pub IsLowAt : ℕ → Option ℕ → List SpaceEvent → Type 0
IsLowAt count refusal part = (p : ℕ) → refusal ≡ Some p → (space : ℕ) → space < count →
    IsLow space (least_order p) part

-- ---- how the parts are asked for

-- runs in front of those of an answer
abbrev pub put : List (List Extent) → Answer (List (List Extent)) → Answer (List (List Extent))
put listed answer = and_then answer (λ more rest. Got (listed ++ more) rest)

-- the rule for all parts, once these runs were taken from the told spaces: those runs, and then
-- what the rule gives for the parts that are left
pub record AreAskedOf {A : Type 0} (space first : A → ℕ) (pages : A → List (List ℕ))
    (views : List SpaceView) (laid : Type 0) (answer : Answer (List (List Extent)))
    (numbers : Numbers) (start threshold : ℕ) (left : List Request) (counts : List ℕ)
    (runs : List A) (new : Rest) : Type 0 where
  pub after : List SpaceView
  pub taken : IsTakenAll space first pages views runs after
  pub told : AreTold new after
  pub listed : List (List Extent)
  pub same : answer ≡ put listed (all_runs numbers start threshold left (free_sets after))
  pub matched : laid → listed ≡ rows counts (extents first pages runs)

-- the parts before those that are left were granted
pub record AreAsked {A : Type 0} (space first : A → ℕ) (pages : A → List (List ℕ)) (tells : Bool)
    (start threshold : ℕ) (requests left : List Request) (old new : Rest) (counts : List ℕ)
    (runs : List A) : Type 0 where
  pub inside : AreRunsIn space first pages tells old.frame runs
  pub whole : sum counts ≡ length runs
  pub parts : (more : List (List ℕ)) → AreOfAll threshold left more →
      AreOfAll threshold requests (rows counts (map (λ run. length (pages run)) runs) ++ more)
  pub told : (numbers : Numbers) (views : List SpaceView) → AreTold old views →
      length views ≡ count old → AreAskedOf space first pages views
      (IsLaid numbers old.frame.firsts)
      (all_runs numbers start threshold requests (free_sets views))
      numbers start threshold left counts runs new

-- p pages were refused that weren't cut, and the rule for all parts refuses them; these runs were
-- granted before
pub record IsStopped {A : Type 0} (space first : A → ℕ) (pages : A → List (List ℕ)) (tells : Bool)
    (start threshold p : ℕ) (requests : List Request) (old new : Rest)
    (runs : List A) : Type 0 where
  pub inside : AreRunsIn space first pages tells old.frame runs
  pub refused : IsRefusedFor start threshold p requests old
  pub told : (views : List SpaceView) → AreTold old views → length views ≡ count old →
      ((after : List SpaceView) × IsTakenAll space first pages views runs after
      × AreTold new after)

-- what a part adds to the list of runs: pieces that lie in their spaces, no more than there is
-- room for, and that the rule for one part gives
pub record AddsPart {A : Type 0} (space first : A → ℕ) (pages : A → List (List ℕ)) (tells : Bool)
    (start threshold : ℕ) (request : Request) (old new : Rest) (had has : List A) : Type 0 where
  pub pieces : List A
  pub added : has ≡ had ++ pieces
  pub inside : AreRunsIn space first pages tells old.frame pieces
  pub sizes : AreRowsOf threshold request (map (λ piece. length (pages piece)) pieces)
  pub few : length pieces ≤ request.need / threshold + 1
  pub told : (numbers : Numbers) (views : List SpaceView) → AreTold old views →
      length views ≡ count old → AnswersHalved space first pages views
      (IsLaid numbers old.frame.firsts)
      (part_runs numbers start threshold request (free_sets views)) None pieces new

-- p pages of a part were refused and not cut: the list and the told spaces are as before
pub record RefusesPart {A : Type 0} (start threshold p : ℕ) (request : Request) (old new : Rest)
    (had has : List A) : Type 0 where
  pub some : 1 ≤ p
  pub small : p < 2 * threshold
  pub list : has ≡ had
  pub due : (numbers : Numbers) (views : List SpaceView) → AreTold old views →
      length views ≡ count old →
      part_runs numbers start threshold request (free_sets views) ≡ Refused p
  pub left : LeavesTold old new

-- how many pieces all parts have at most
abbrev pub most_pieces : ℕ → List Request → ℕ
most_pieces threshold [] = 0
most_pieces threshold (request ∷ requests) =
    request.need / threshold + 1 + most_pieces threshold requests

-- nothing is granted yet, and there is room for all that can be, and for a count of each part
pub record HasRoomToAsk {A : Type 0} (threshold : ℕ) (requests : List Request) (segments : List A)
    (counts : List ℕ) (room places : ℕ) : Type 0 where
  pub unfilled : segments ≡ []
  pub uncounted : counts ≡ []
  pub pieces : most_pieces threshold requests ≤ room
  pub parts : length requests ≤ places
