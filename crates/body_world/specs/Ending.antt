-- The end of a world: what is still open is aborted, in the order of sessions, and its parts are
-- those of the store again.
use Rattle.std.specs.Prelude.{◌≡◌, ℕ, ◌≤◌, Bool, true, false, IsTrue, List}
use Rattle.eos_ops.specs.declared.limits.TheConstants.{SESSIONS}
use Rattle.history.specs.Event.{Event, Closes}
use Rattle.geometry_model.specs.Numbers.{Numbers}
use Rattle.layout_model.specs.Layout.{Tree}
use Rattle.machine.specs.Machine.{Machine, bare, is_active}
use Rattle.machine.specs.Next.{next}
use Rattle.moment_model.specs.Moment.{Moment}
use Rattle.moment_model.specs.Run.{committed_by, aborted_by, all_aborted}
use Rattle.space_directory.specs.SpaceView.{SpaceView}
use Rattle.store_model.specs.Store.{Store, HoldsBy}
use Rattle.world.specs.Ending.{aborted, machine_aborted}
use Rattle.body_world.specs.Session.{Shown}
use Rattle.body_world.specs.Start.{AreStoreSpaces, AreStoreObjects, RolesAgree, moment_of_parts}
use Rattle.body_world.specs.Start.{store_of_parts}

-- Where bytes are told, the committed objects are as each session left them by aborting what it had
-- open; the moment is that one; and the spaces are those of the store, with its roles.
pub record AreToldParts {T : Type 0} (good : Numbers → Tree → Type 0) (show : T → Shown)
    (store : Store) (spaces : List SpaceView) (xs : List T) : Type 0 where
  pub slots : (store_of_parts show store.numbers SESSIONS xs).machine.slots
      ≡ (machine_aborted SESSIONS store.machine).slots
  pub moment : (past : List Event) →
      ((s : ℕ) → 1 ≤ s → s ≤ SESSIONS → HoldsBy s past store.machine) →
      moment_of_parts show xs ≡ all_aborted SESSIONS past store.moment
  pub of_spaces : AreStoreSpaces store.numbers spaces
  pub roles : RolesAgree good show store.numbers spaces xs

-- The parts of a world that is over: over every device its objects, at rest, and its port.
pub record AreLastParts {T : Type 0} (tells : Bool) (good : Numbers → Tree → Type 0)
    (show : T → Shown) (store : Store) (spaces : List SpaceView) (xs : List T)
    (page : ℕ) : Type 0 where
  pub of_objects : AreStoreObjects show store.numbers xs
  pub sized : page ≡ store.numbers.page
  pub told : IsTrue tells → AreToldParts good show store spaces xs

-- the moment once session s has committed, or else aborted, what it holds after these events
abbrev pub ended_by : ℕ → Bool → List Event → Moment → Moment
ended_by s true past moment = committed_by s past moment
ended_by s false past moment = aborted_by s past moment

-- the transaction of session s is over, whatever its objects hold
abbrev pub IsBareEnd : ℕ → Bool → Machine → Machine → Type 0
IsBareEnd s committed m m' = bare m' ≡ bare (next m s (Closes committed))

-- the same where bytes are told, in the machine and in the moment
pub record IsToldEnd (s : ℕ) (committed : Bool) (w w' : Store) : Type 0 where
  pub machine : w'.machine ≡ next w.machine s (Closes committed)
  pub moment : (past : List Event) → HoldsBy s past w.machine →
      w'.moment ≡ ended_by s committed past w.moment

-- Session s has aborted what it had open, if anything: nothing is open then, and no other session
-- has begun. Where bytes are told, it is the step of the machine and of the moment.
pub record IsStopped (tells : Bool) (s : ℕ) (w w' : Store) : Type 0 where
  pub numbers : w'.numbers ≡ w.numbers
  pub closed : is_active w'.machine s ≡ false
  pub others : (t : ℕ) → is_active w.machine t ≡ false → is_active w'.machine t ≡ false
  pub machine : IsTrue tells → w'.machine ≡ aborted s w.machine
  pub moment : IsTrue tells → (past : List Event) → HoldsBy s past w.machine →
      w'.moment ≡ aborted_by s past w.moment

-- Sessions 1 to n have aborted what they had open, one after the other: nothing of theirs is open.
-- Where bytes are told, these are steps of the machine and of the moment.
pub record HaveStopped (tells : Bool) (n : ℕ) (w w' : Store) : Type 0 where
  pub numbers : w'.numbers ≡ w.numbers
  pub idle : (s : ℕ) → s ≤ n → is_active w'.machine s ≡ false
  pub machine : IsTrue tells → w'.machine ≡ machine_aborted n w.machine
  pub moment : IsTrue tells → (past : List Event) →
      ((s : ℕ) → 1 ≤ s → s ≤ SESSIONS → HoldsBy s past w.machine) →
      w'.moment ≡ all_aborted n past w.moment
