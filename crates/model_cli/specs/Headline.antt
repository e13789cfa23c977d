-- What a run of the plain program means.
use Rattle.std.specs.Prelude.{ℕ, List, [], ◌∷◌, IsTrue}
use Rattle.std.specs.List.{AllByRecursion}
use Rattle.eos_ops.specs.declared.limits.TheConstants.{SESSIONS}
use Rattle.eos_ops.specs.declared.plain.Plain.{Plain}
use Rattle.geometry_model.specs.Numbers.{Numbers}
use Rattle.history.specs.Event.{Event}
use Rattle.machine.specs.Machine.{fresh}
use Rattle.machine.specs.Runs.{IsRun}
use Rattle.moment_model.specs.Edit.{edited_slot}
use Rattle.moment_model.specs.Moment.{Moment, IsSound}
use Rattle.moment_model.specs.Run.{AllAgree, moment_of}
use Rattle.moment_model.specs.Version.{IsGood}
use Rattle.plain_moment.specs.Stored.{is_unfailing}
use Rattle.soundness_laws.specs.InOrder.{is_held}
use Rattle.script_run.specs.Headline.{IsSerialRun}
use Rattle.store_model.specs.Store.{Store}

-- a store of these numbers in which nothing is open, over objects with these bytes, which stand so
abbrev pub store_at_rest : Numbers → List Plain → Moment → Store
store_at_rest n db moment = record { numbers = n; machine = fresh SESSIONS db; moment = moment }

-- the moment to which these events have moved the first one is sound, where the sessions hold
-- what the events say
abbrev pub IsSoundAfter : Numbers → Moment → List Event → Type 0
IsSoundAfter n first past = IsSound IsGood n (is_held SESSIONS past)
    (moment_of edited_slot n first past)

-- each moment is, from the first on
abbrev pub AllSound : Numbers → Moment → List Event → Type 0
AllSound n first [] = IsSoundAfter n first []
AllSound n first (e ∷ past) = AllSound n first past × IsSoundAfter n first (e ∷ past)

-- These lines were run over a store of these numbers, objects and places, and the output answers
-- them: the events are one run of the machine, of which each event agrees with the moment to which
-- those before it have moved the first one. Each of these moments is sound. So the transactions are
-- one serial history, and each refusal has its cause. A plain store has no device, and where it has
-- no memory it gives up: no reply tells of a fault or of want of memory.
pub record HasStoreRun (n : Numbers) (db : List Plain) (first : Moment) (lines : List (List ℕ))
    (output : List ℕ) : Type 0 where
  pub past : List Event
  pub serial : IsSerialRun db lines output past
  pub machine : IsRun (fresh SESSIONS db) past
  pub moments : AllAgree edited_slot n first past
  pub sound : AllSound n first past
  pub unfailing : AllByRecursion (λ e. IsTrue (is_unfailing e.reply)) past
