-- Runs for the made parts of a change: asked for, and held.
use Rattle.std.specs.Prelude.{◌≡◌, ℕ, ◌<◌, Bool, IsTrue, List, ◌++◌}
use Rattle.std.specs.Prelude.{length, map, sum, Option, None, Result, Ok, Err, IfOk}
use Rattle.std.specs.List.{AllByRecursion}
use Rattle.geometry_model.specs.Numbers.{Numbers}
use Rattle.layout_model.specs.declared.extent.Extent.{Extent}
use Rattle.layout_model.specs.declared.request.Request.{Request}
use Rattle.layout_model.specs.Grants.{all_runs}
use Rattle.moment_model.specs.Version.{uses}
use Rattle.moment_laws.specs.Granting.{LiesInSpace}
use Rattle.space_directory.specs.SpaceView.{SpaceView}
use Rattle.superdirectory.specs.Grants.{AreTold, KeepsFrame, free_sets}
use Rattle.superdirectory.specs.Parts.{extents}
use Rattle.superdirectory.specs.Rest.{Rest, count}
use Rattle.superdirectory.specs.Trace.{SpaceEvent, Part}
use Rattle.span_store.specs.Held.{Held}
use Rattle.page_cache.specs.Kept.{KeptNodes, kept}
use Rattle.part_store.specs.Asking.{AreOfAll, rows}
use Rattle.object_body.specs.declared.fails.EditFail.{EditFail}
use Rattle.object_body.specs.declared.fails.EditFail.TheVariants.{Fault, Memory}
use Rattle.object_body.specs.Places.{AreHome}
use Rattle.held_parts.specs.declared.part_runs.PartRuns.{PartRuns}
use Rattle.give_back.specs.Giving.{LetsGo, gives, is_in_runs}
use Rattle.held_parts.specs.Holding.{HoldsGranted, HoldsSame, KeepsRight}
use Rattle.held_parts.specs.Spaces.{HaveGranted, IsFewRefused, IsGrantAnswer, IsLowFor}

-- the segments behind those that are left in the list are held
pub record AreHeldLast {A : Type 0} (first : A → ℕ) (pages : A → List (List ℕ)) (had has : List A)
    (old new : Held) : Type 0 where
  pub done : List A
  pub parts : had ≡ has ++ done
  pub held : HoldsGranted None (extents first pages done) old new

-- what is held is what was and the runs, or as it was after a refusal
abbrev pub HaveHeldRuns : Held → Held → Result PartRuns EditFail → Type 0
HaveHeldRuns old new (Ok r) = HoldsGranted None r.runs.items old new
HaveHeldRuns old new (Err fail) = HoldsSame None old new

-- runs for parts, as long as they ask, each in one space
pub record AreRunsFor (n : Numbers) (threshold : ℕ) (requests : List Request) (counts : List ℕ)
    (runs : List Extent) : Type 0 where
  pub whole : sum counts ≡ length runs
  pub suited : AreOfAll threshold requests (rows counts (map (λ run. run.pages) runs))
  pub together : AllByRecursion (LiesInSpace n) runs

-- no node is kept for a page of these runs
abbrev pub AreBare : List Extent → KeptNodes → Type 0
AreBare runs nodes = (q : ℕ) → 0 < uses q runs → kept nodes q ≡ None

-- Runs that were granted are held and nothing else moved; or all of them were given back.
abbrev pub GoesBack : Numbers → List Extent → Rest → Rest → Option (List SpaceEvent) →
    Option (List SpaceEvent) → Result PartRuns EditFail → Type 0
GoesBack n runs old new before after (Ok r) = (new ≡ old) × (after ≡ before)
GoesBack n runs old new before after (Err fail) =
    (fail ≡ Memory) × LetsGo n (gives (is_in_runs runs)) old new before after

-- What holding the runs that were granted for parts does: these runs, so many for each part.
pub record HoldsParts (tells : Bool) (n : Numbers) (counts : List ℕ) (runs : List Extent)
    (result : Result PartRuns EditFail) (old new : Held) (nodes : KeptNodes) (rest now : Rest)
    (before after : Option (List SpaceEvent)) : Type 0 where
  pub counts_are : IfOk result (λ r. r.counts.items ≡ counts)
  pub runs_are : IfOk result (λ r. r.runs.items ≡ runs)
  pub held : HaveHeldRuns old new result
  pub right : KeepsRight tells n new nodes
  pub bare : IsTrue tells → IfOk result (λ r. AreBare r.runs.items nodes)
  pub back : GoesBack n runs rest now before after result

-- What asking for the pages of parts does, from space `start` on and around.
pub record AsksRuns (tells : Bool) (n : Numbers) (start threshold : ℕ) (requests : List Request)
    (result : Result PartRuns EditFail) (old new : Held) (nodes : KeptNodes) (rest now : Rest)
    (before after : Option (List SpaceEvent)) : Type 0 where
  pub runs : IfOk result (λ r. AreRunsFor n threshold requests r.counts.items r.runs.items)
  pub held : HaveHeldRuns old new result
  pub right : KeepsRight tells n new nodes
  pub bare : IsTrue tells → IfOk result (λ r. AreBare r.runs.items nodes)
  pub frame : KeepsFrame rest now
  pub low : Part (IsLowFor (count rest) result) before after
  pub few : IsFewRefused threshold result
  pub answer : (views : List SpaceView) → AreTold rest views → length views ≡ count rest →
      IsGrantAnswer (λ r. rows r.counts.items r.runs.items)
      (all_runs n start threshold requests (free_sets views)) now result
  pub spaces : (views : List SpaceView) → AreTold rest views → AreHome rest.frame views →
      HaveGranted (λ r. r.runs.items) n rest.frame views now result
  pub long : (views : List SpaceView) → AreTold rest views → length views ≡ count rest →
      IfOk result (λ r. (left : List SpaceView) → AreTold now left → length left ≡ count now)
  pub no_fault : result ≡ Err Fault → ⊥
