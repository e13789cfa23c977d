-- What the steps of a store make: a run, from a store at rest.
use Rattle.std.specs.Prelude.{◌≡◌, ℕ, Bool, true, false, Some, List, [], ◌∷◌, length, IsTrue}
use Rattle.geometry_model.specs.Numbers.{Numbers, IsInRange, objects}
use Rattle.eos_ops.specs.declared.command.Command.{Command}
use Rattle.eos_ops.specs.declared.edit.Edit.{Edit}
use Rattle.eos_ops.specs.declared.reply.Reply.{Reply}
use Rattle.eos_ops.specs.declared.reply.Reply.TheVariants as reply
use Rattle.eos_ops.specs.Objects.{edit_of}
use Rattle.history.specs.Event.{Event}
use Rattle.layout_model.specs.Layout.{Tree}
use Rattle.machine.specs.Machine.{AtRest}
use Rattle.machine.specs.Runs.{IsRun, state_after}
use Rattle.moment_model.specs.Moment.{IsSound}
use Rattle.moment_model.specs.Run.{Lays, AllAgree, moment_of}
use Rattle.soundness_laws.specs.Keeping.{AsksThreshold}
use Rattle.change_laws.specs.Tail.{HaveTails}
use Rattle.store_model.specs.Store.{Store}

-- the events are a run of the machine, each agrees with the moment in which it comes, and the
-- last store is theirs
pub record IsToldRun (laid : Lays) (first : Store) (past : List Event) (last : Store) : Type 0 where
  pub run : IsRun first.machine past
  pub numbers : last.numbers ≡ first.numbers
  pub machine : last.machine ≡ state_after first.machine past
  pub agree : AllAgree laid first.numbers first.moment past
  pub moment : last.moment ≡ moment_of laid first.numbers first.moment past

-- no edit asks for a threshold of 0
abbrev pub AllAskThresholds : List Event → Type 0
AllAskThresholds [] = Unit {0}
AllAskThresholds (e ∷ past) = AllAskThresholds past
    × ((edit : Edit) → edit_of e.command ≡ Some edit → AsksThreshold edit)

-- a store in which nothing is open and nothing held, and whose moment is sound, with a slot for
-- each object
pub record IsSoundRest (good : Numbers → Tree → Type 0) (w : Store) : Type 0 where
  pub range : IsInRange w.numbers
  pub rest : AtRest w.machine
  pub sound : IsSound good w.numbers (λ o. false) w.moment
  pub tails : HaveTails w.numbers w.moment
  pub slots : length w.moment ≡ objects w.numbers

-- a reply that is no fault and no want of memory
abbrev pub is_undisturbed : Reply → Bool
is_undisturbed reply.Fault = false
is_undisturbed reply.Memory = false
is_undisturbed r = true

-- all replies are such
abbrev pub AllUndisturbed : List Event → Type 0
AllUndisturbed [] = Unit {0}
AllUndisturbed (e ∷ past) = AllUndisturbed past × IsTrue (is_undisturbed e.reply)

-- who asked what
abbrev pub asked : Event → ℕ × Command
asked e = (e.session, e.command)
