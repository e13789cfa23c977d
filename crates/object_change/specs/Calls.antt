-- What it takes to make a change, and what making it does: one record each, over what the object
-- holds and what its port and the spaces show.
use Rattle.std.specs.Prelude.{◌≡◌, ℕ, ◌+◌, ◌<◌, ◌≤◌, Bool, IsTrue, List, [], length, map, Option}
use Rattle.std.specs.Prelude.{Result, Ok, Err, IfOk, Some}
use Rattle.geometry_model.specs.Numbers.{Numbers}
use Rattle.fault_count.specs.Counts.{HasCause, IsUsed, Meter}
use Rattle.layout_model.specs.declared.extent.Extent.{Extent}
use Rattle.moment_model.specs.Version.{spare_uses, version_uses}
use Rattle.layout_model.specs.Levels.{count_made}
use Rattle.layout_model.specs.Layout.{Tree, granted, laid_levels, plan_of}
use Rattle.span_store.specs.Held.{Held, bytes_on}
use Rattle.part_store.specs.Asking.{AreOfAll}
use Rattle.space_directory.specs.SpaceView.{SpaceView}
use Rattle.superdirectory.specs.Grants.{AreTold, KeepsFrame, free_sets}
use Rattle.superdirectory.specs.Rest.{count}
use Rattle.superdirectory.specs.Trace.{Part}
use Rattle.object_body.specs.declared.fails.EditFail.{EditFail}
use Rattle.object_body.specs.declared.fails.EditFail.TheVariants.{Fault}
use Rattle.object_body.specs.Places.{AreHome, IsReady}
use Rattle.object_plan.specs.declared.planned.Planned.{Planned}
use Rattle.object_plan.specs.declared.working_tree.WorkingTree.{WorkingTree}
use Rattle.object_plan.specs.Planned.{CanMake, IsPlanOf}
use Rattle.object_plan.specs.WorkingTree.{CanChange, IsToldWorking, tree_on}
use Rattle.object_change.specs.declared.changed.Changed.{Changed}
use Rattle.object_change.specs.Changed.{HasChanged, IsToldChange, granted_in, grants_in}
use Rattle.give_back.specs.Giving.{IsLeft, LetsGo, gives, is_in_runs}
use Rattle.object_change.specs.Scene.{used_spare}
use Rattle.object_change.specs.Scene.{HoldsSpare, Scene, filled_pages}
use Rattle.held_parts.specs.Holding.{HoldsGranted, HoldsSame, KeepsRight}
use Rattle.held_parts.specs.Spaces.{HaveGranted, IsFewRefused, IsGrantAnswer, IsLowFor}

-- A planned change of an object can be made, with this payload.
pub record CanMakeChange (tells : Bool) (n : Numbers) (start : ℕ) (w : WorkingTree) (p : Planned)
    (payload : List ℕ) (s : Scene) : Type 0 where
  pub page : s.meter.page ≡ n.page
  pub ready : IsReady n s.rest
  pub start_there : start < count s.rest
  pub right : KeepsRight tells n s.held s.nodes
  pub spare : HoldsSpare s.held w.spare
  pub change : CanChange n w p.change
  pub plan : CanMake n s.held w p
  pub paid : length payload ≡ p.change.added
  pub told : IsTrue tells → IsToldWorking n s.held w × IsPlanOf n (bytes_on s.held) w p
  pub once : IsTrue tells → (q : ℕ) →
      version_uses n q (Some (tree_on (bytes_on s.held) w)) + spare_uses q w.spare ≤ 1

-- what is held is what was and what was granted, or as it was after a refusal
abbrev pub HaveHeld : Option Extent → Held → Held → Result Changed EditFail → Type 0
HaveHeld spare old new (Ok c) = HoldsGranted spare (granted_in c) old new
HaveHeld spare old new (Err fail) = HoldsSame spare old new

-- no more pages were written than the new bytes fill, and a page for each node that the plan makes
-- on runs that suit the parts
pub record WritesChange (n : Numbers) (tree : Tree) (w : WorkingTree) (p : Planned)
    (old new : Meter) : Type 0 where
  pub runs : List (List Extent)
  pub suited : AreOfAll w.threshold p.requests.items (map (map (λ run. run.pages)) runs)
  pub most : new.written ≤ old.written + filled_pages n.page p
      + count_made (laid_levels n tree w.spare (plan_of n tree w.spare p.change) runs [])

-- What making a planned change does. Spaces are asked from `start` on and around.
pub record MakesChange (tells : Bool) (n : Numbers) (start : ℕ) (w : WorkingTree) (p : Planned)
    (payload : List ℕ) (result : Result Changed EditFail) (before after : Scene) : Type 0 where
  -- the object, over every device and where it tells
  pub changed : IfOk result (HasChanged n w p)
  pub told : IsTrue tells → IfOk result (IsToldChange n (bytes_on before.held)
      (bytes_on after.held) w p.change payload)
  -- what it holds, and that this and the nodes that it keeps are right
  pub held : HaveHeld (used_spare p.fit w.spare) before.held after.held result
  pub right : KeepsRight tells n after.held after.nodes
  -- the spaces: what was granted is what the rule says, and after a refusal they are as they were
  pub rest : KeepsFrame before.rest after.rest
  pub low : Part (IsLowFor (count before.rest) result) before.trace after.trace
  pub few : IsFewRefused w.threshold result
  pub answer : IsTrue tells → (views : List SpaceView) → AreTold before.rest views →
      length views ≡ count before.rest → IsGrantAnswer grants_in
      (granted n start (tree_on (bytes_on before.held) w) w.spare p.change (free_sets views))
      after.rest result
  pub spaces : (views : List SpaceView) → AreTold before.rest views →
      AreHome before.rest.frame views →
      HaveGranted granted_in n before.rest.frame views after.rest result
  -- the port
  pub used : IsUsed before.meter after.meter
  pub writes : IsTrue tells → WritesChange n (tree_on (bytes_on before.held) w) w p before.meter
      after.meter
  pub cause : HasCause before.meter.faults after.meter.faults (result ≡ Err Fault)

-- Runs of pages were given back: they are held no more, and are free in their spaces.
pub record TakesBack (tells : Bool) (n : Numbers) (runs : List Extent) (before after : Scene)
    : Type 0 where
  pub held : IsLeft (is_in_runs runs) before.held after.held
  pub right : KeepsRight tells n after.held after.nodes
  pub meter : after.meter ≡ before.meter
  pub given : LetsGo n (gives (is_in_runs runs)) before.rest after.rest before.trace
      after.trace
