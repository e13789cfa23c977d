-- What a command on an object takes memory for, beside the room for its act.
use Rattle.std.specs.Prelude.{◌≡◌, ℕ, ◌<◌, ◌⊎◌, length}
use Rattle.eos_ops.specs.declared.command.Command.{Command}
use Rattle.eos_ops.specs.declared.command.Command.TheVariants.{Begin, Create, Destroy, Length}
use Rattle.eos_ops.specs.declared.command.Command.TheVariants.{Read, Append, Insert, Delete}
use Rattle.eos_ops.specs.declared.command.Command.TheVariants.{Replace, Commit, Abort, Status}
use Rattle.eos_ops.specs.declared.edit.Edit.{Edit}
use Rattle.eos_ops.specs.declared.edit.Edit.TheVariants as edit
use Rattle.eos_ops.specs.declared.outcome.Outcome.TheVariants.{Done}
use Rattle.eos_ops.specs.declared.payload.Payload.{Payload}
use Rattle.eos_ops.specs.declared.payload.Payload.TheVariants.{Given, Made}
use Rattle.eos_ops.specs.declared.plain.Plain.{Plain}
use Rattle.eos_ops.specs.declared.plain.Plain.TheVariants.{Absent, Present}
use Rattle.eos_ops.specs.declared.reply.Reply.{Reply}
use Rattle.eos_ops.specs.declared.reply.Reply.TheVariants.{Bytes}
use Rattle.eos_ops.specs.Edits.{outcome_in, edited}
use Rattle.eos_ops.specs.Objects.{read_in}
use Rattle.eos_ops.specs.Payloads.{payload_bytes}

-- the reply is bytes, at least one
abbrev pub GivesBytes : Reply → Type 0
GivesBytes (Bytes x) = 0 < length x
GivesBytes r = ⊥

-- the object has at least one byte
abbrev pub HasAByte : Plain → Type 0
HasAByte Absent = ⊥
HasAByte (Present x) = 0 < length x

-- the payload is at least one byte that has to be made
abbrev pub IsToMake : Payload → Type 0
IsToMake (Given bytes) = ⊥
IsToMake (Made n start) = 0 < n

-- the edit can be made, and leaves at least one byte
abbrev pub LeavesBytes : Edit → Plain → Type 0
LeavesBytes e x = (outcome_in e x ≡ Done) × HasAByte (edited e x)

-- The answer of an object takes memory: for the bytes that it gives, for a payload that has to be
-- made, or for the bytes that an edit leaves.
abbrev pub TakesMemory : Command → Plain → Type 0
TakesMemory (Read o at n) x = GivesBytes (read_in at n x)
TakesMemory (Append o p) x = IsToMake p ⊎ LeavesBytes (edit.Append (payload_bytes p)) x
TakesMemory (Insert o at p) x = IsToMake p ⊎ LeavesBytes (edit.Insert at (payload_bytes p)) x
TakesMemory (Delete o at n) x = LeavesBytes (edit.Delete at n) x
TakesMemory (Replace o at p) x = IsToMake p ⊎ LeavesBytes (edit.Replace at (payload_bytes p)) x
TakesMemory (Create o t) x = ⊥
TakesMemory (Destroy o) x = ⊥
TakesMemory (Length o) x = ⊥
TakesMemory Begin x = ⊥
TakesMemory Commit x = ⊥
TakesMemory Abort x = ⊥
TakesMemory Status x = ⊥

-- Whatever the object and its store, a command takes memory only if it asks for a byte, or is an
-- edit other than `create`, which brings none.
abbrev pub MayTakeMemory : Command → Type 0
MayTakeMemory (Read o at n) = 0 < n
MayTakeMemory (Destroy o) = Unit {0}
MayTakeMemory (Append o p) = Unit {0}
MayTakeMemory (Insert o at p) = Unit {0}
MayTakeMemory (Delete o at n) = Unit {0}
MayTakeMemory (Replace o at p) = Unit {0}
MayTakeMemory (Create o t) = ⊥
MayTakeMemory (Length o) = ⊥
MayTakeMemory Begin = ⊥
MayTakeMemory Commit = ⊥
MayTakeMemory Abort = ⊥
MayTakeMemory Status = ⊥
