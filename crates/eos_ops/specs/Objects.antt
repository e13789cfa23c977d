-- What the plain object answers to a command, and what it is afterwards.
use Rattle.std.specs.Prelude.{ℕ, ◌+◌, length, nat_le, nat_lt, Bool, false, if◌then◌else◌, Option}
use Rattle.std.specs.Prelude.{Some, None}
use Rattle.eos_ops.specs.declared.limits.TheConstants.{MAX_TRANSFER}
use Rattle.eos_ops.specs.declared.command.Command.{Command}
use Rattle.eos_ops.specs.declared.command.Command.TheVariants.{Begin, Create, Destroy, Length}
use Rattle.eos_ops.specs.declared.command.Command.TheVariants.{Read, Append, Insert, Delete}
use Rattle.eos_ops.specs.declared.command.Command.TheVariants.{Replace, Commit, Abort, Status}
use Rattle.eos_ops.specs.declared.edit.Edit.{Edit}
use Rattle.eos_ops.specs.declared.edit.Edit.TheVariants as edit
use Rattle.eos_ops.specs.declared.outcome.Outcome.{Outcome}
use Rattle.eos_ops.specs.declared.outcome.Outcome.TheVariants as outcome
use Rattle.eos_ops.specs.declared.payload.Payload.TheVariants.{Given}
use Rattle.eos_ops.specs.declared.plain.Plain.{Plain}
use Rattle.eos_ops.specs.declared.plain.Plain.TheVariants.{Absent, Present}
use Rattle.eos_ops.specs.declared.reply.Reply.{Reply}
use Rattle.eos_ops.specs.declared.reply.Reply.TheVariants as reply
use Rattle.eos_ops.specs.Edits.{outcome_in, edited}
use Rattle.eos_ops.specs.Payloads.{payload_bytes, is_long_payload}
use Rattle.eos_ops.specs.Splice.{part}

-- the object that a command is on
abbrev pub object_of : Command → Option ℕ
object_of Begin = None
object_of (Create o t) = Some o
object_of (Destroy o) = Some o
object_of (Length o) = Some o
object_of (Read o at n) = Some o
object_of (Append o p) = Some o
object_of (Insert o at p) = Some o
object_of (Delete o at n) = Some o
object_of (Replace o at p) = Some o
object_of Commit = None
object_of Abort = None
object_of Status = None

-- the command with its payload as bytes
abbrev pub with_bytes : Command → Command
with_bytes (Append o p) = Append o (Given (payload_bytes p))
with_bytes (Insert o at p) = Insert o at (Given (payload_bytes p))
with_bytes (Replace o at p) = Replace o at (Given (payload_bytes p))
with_bytes Begin = Begin
with_bytes (Create o t) = Create o t
with_bytes (Destroy o) = Destroy o
with_bytes (Length o) = Length o
with_bytes (Read o at n) = Read o at n
with_bytes (Delete o at n) = Delete o at n
with_bytes Commit = Commit
with_bytes Abort = Abort
with_bytes Status = Status

-- a made payload or a read above the limit
abbrev pub is_too_long : Command → Bool
is_too_long (Read o at n) = nat_lt MAX_TRANSFER n
is_too_long (Append o p) = is_long_payload p
is_too_long (Insert o at p) = is_long_payload p
is_too_long (Replace o at p) = is_long_payload p
is_too_long Begin = false
is_too_long (Create o t) = false
is_too_long (Destroy o) = false
is_too_long (Length o) = false
is_too_long (Delete o at n) = false
is_too_long Commit = false
is_too_long Abort = false
is_too_long Status = false

-- the edit that a command makes, if it makes one
abbrev pub edit_of : Command → Option Edit
edit_of (Create o t) = Some (edit.Create t)
edit_of (Destroy o) = Some edit.Destroy
edit_of (Append o p) = Some (edit.Append (payload_bytes p))
edit_of (Insert o at p) = Some (edit.Insert at (payload_bytes p))
edit_of (Delete o at n) = Some (edit.Delete at n)
edit_of (Replace o at p) = Some (edit.Replace at (payload_bytes p))
edit_of Begin = None
edit_of (Length o) = None
edit_of (Read o at n) = None
edit_of Commit = None
edit_of Abort = None
edit_of Status = None

-- an outcome as a reply
abbrev pub reply_of : Outcome → Reply
reply_of outcome.Done = reply.Ok
reply_of outcome.Exists = reply.Exists
reply_of outcome.Missing = reply.Missing
reply_of (outcome.Range n) = reply.Range n

-- the number of bytes of an object
abbrev pub length_in : Plain → Reply
length_in Absent = reply.Missing
length_in (Present x) = reply.Length (length x)

-- the n bytes of an object from `at` on
abbrev pub read_in : ℕ → ℕ → Plain → Reply
read_in at n Absent = reply.Missing
read_in at n (Present x) = if nat_le (at + n)
    (length x) then reply.Bytes (part x at n) else reply.Range (length x)

-- The reply of the plain object to a command on it: its length, the bytes that it asks for, or
-- what becomes of the edit that it makes. (A command on no object has no such reply, and `Idle`
-- stands in its place.)
unfoldable pub reply_in : Command → Plain → Reply
reply_in (Length o) object = length_in object
reply_in (Read o at n) object = read_in at n object
reply_in (Create o t) object = reply_of (outcome_in (edit.Create t) object)
reply_in (Destroy o) object = reply_of (outcome_in edit.Destroy object)
reply_in (Append o p) object = reply_of (outcome_in (edit.Append (payload_bytes p)) object)
reply_in (Insert o at p) object = reply_of (outcome_in (edit.Insert at (payload_bytes p)) object)
reply_in (Delete o at n) object = reply_of (outcome_in (edit.Delete at n) object)
reply_in (Replace o at p) object = reply_of (outcome_in (edit.Replace at (payload_bytes p)) object)
reply_in Begin object = reply.Idle
reply_in Commit object = reply.Idle
reply_in Abort object = reply.Idle
reply_in Status object = reply.Idle

-- The object after the command: as its edit leaves it, and as before where it makes none.
unfoldable pub after_in : Command → Plain → Plain
after_in (Create o t) object = edited (edit.Create t) object
after_in (Destroy o) object = edited edit.Destroy object
after_in (Append o p) object = edited (edit.Append (payload_bytes p)) object
after_in (Insert o at p) object = edited (edit.Insert at (payload_bytes p)) object
after_in (Delete o at n) object = edited (edit.Delete at n) object
after_in (Replace o at p) object = edited (edit.Replace at (payload_bytes p)) object
after_in (Length o) object = object
after_in (Read o at n) object = object
after_in Begin object = object
after_in Commit object = object
after_in Abort object = object
after_in Status object = object
