-- What an edit of an object in memory takes memory for, beside its act.
use Rattle.std.specs.Prelude.{◌≡◌, MatchOption}
use Rattle.eos_ops.specs.declared.edit.Edit.{Edit}
use Rattle.eos_ops.specs.declared.outcome.Outcome.TheVariants.{Done}
use Rattle.eos_ops.specs.Edits.{outcome_in, edited, PutsBytes}
use Rattle.eos_ops.specs.Memory.{HasAByte}
use Rattle.shadow_txn.specs.declared.plain_object.PlainObject.{PlainObject}
use Rattle.shadow_txn.specs.Objects.{working_of}

-- The edit can be made, and takes memory: the first one of a transaction for the edited copy,
-- where that has bytes, a later one for the bytes that it puts in.
abbrev pub WantsMemory : {H : Type 0} → Edit → PlainObject H → Type 0
WantsMemory e x = (outcome_in e (working_of x) ≡ Done)
    × MatchOption x.working (HasAByte (edited e x.committed)) (PutsBytes e)
