-- The steps of a server are steps of the store.
use Rattle.std.proofs.Common.{ℕ, List, [], ◌∷◌, ap}
use Rattle.std.specs.Prelude.{Bool, IsTrue}
use Rattle.eos_ops.specs.declared.edit.Edit.{Edit}
use Rattle.geometry_model.specs.Numbers.{Numbers}
use Rattle.history.specs.Event.{Event}
use Rattle.machine.specs.Machine.{bare}
use Rattle.moment_model.specs.Moment.{ObjectSlot}
use Rattle.moment_model.specs.Run.{Lays}
use Rattle.script_run.specs.Served.{AreSteps}
use Rattle.store_model.specs.Store.{AreOwedSteps, AreToldSteps}
use Rattle.body_world.specs.Keeping.{WorldView}
use Rattle.store_server.specs.Step.{IsServerStep}

-- over every device the replies are owed
pub steps-owed : (tells on_pages : Bool) (laid : Lays)
    (may_write : Numbers → ObjectSlot → Edit → ObjectSlot → ℕ → Type 0) (may_read : Numbers → ObjectSlot → ℕ → ℕ → Type 0)
    (w w' : WorldView) (past : List Event) → AreSteps (IsServerStep tells on_pages laid may_write may_read) w past w' →
    AreOwedSteps w.store.machine past w'.store.machine
steps-owed tells on_pages laid may_write may_read w w' [] same = ap (λ (v : WorldView). bare v.store.machine) same
steps-owed tells on_pages laid may_write may_read w w' (e ∷ past) (v, (steps, step)) =
    (v.store.machine, steps-owed tells on_pages laid may_write may_read w v past steps, step.owed)

-- and where bytes are told, of objects on pages, they lead from store to store
pub steps-told : (tells on_pages : Bool) (laid : Lays)
    (may_write : Numbers → ObjectSlot → Edit → ObjectSlot → ℕ → Type 0) (may_read : Numbers → ObjectSlot → ℕ → ℕ → Type 0)
    (w w' : WorldView) (past : List Event) → IsTrue tells → IsTrue on_pages →
    AreSteps (IsServerStep tells on_pages laid may_write may_read) w past w' → AreToldSteps laid w.store past w'.store
steps-told tells on_pages laid may_write may_read w w' [] tell pages same = ap (λ (v : WorldView). v.store) same
steps-told tells on_pages laid may_write may_read w w' (e ∷ past) tell pages (v, (steps, step)) =
    (v.store, steps-told tells on_pages laid may_write may_read w v past tell pages steps, step.told tell pages)
