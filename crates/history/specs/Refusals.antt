-- Which refusal a command meets, by the events before it.
use Rattle.std.specs.Prelude.{◌≡◌, ℕ, ◌⊎◌, List, [], ◌∷◌, Bool, true, false, nat_le, Option, Some}
use Rattle.std.specs.Prelude.{None, IsTrue, MatchOption, if◌then◌else◌}
use Rattle.std.specs.Option.{option_and_then}
use Rattle.eos_ops.specs.declared.command.Command.{Command}
use Rattle.eos_ops.specs.declared.command.Command.TheVariants.{Begin, Status}
use Rattle.eos_ops.specs.declared.limits.TheConstants.{MAX_HELD}
use Rattle.eos_ops.specs.declared.reply.Reply.{Reply}
use Rattle.eos_ops.specs.declared.reply.Reply.TheVariants as reply
use Rattle.eos_ops.specs.Memory.{MayTakeMemory}
use Rattle.eos_ops.specs.Objects.{object_of, is_too_long}
use Rattle.history.specs.Event.{Event, Deed, Opens, Does, Takes, Closes, Nothing, deed}
use Rattle.history.specs.Holding.{holds, held_count, is_held_elsewhere}
use Rattle.history.specs.Transactions.{is_open}

-- Why session s can't have object o, of so many sessions and objects: it has none of what stands
-- before, so the order of the refusals is that of the lines. A held object meets none of them.
abbrev pub object_refusal : ℕ → ℕ → List Event → ℕ → ℕ → Option Reply
object_refusal sessions objects past s o =
    if holds s o past then None
    else if nat_le objects o then Some reply.NoObject
    else if nat_le MAX_HELD (held_count objects s past) then Some reply.Full
    else if is_held_elsewhere sessions s o past then Some reply.Busy
    else None

-- why session s can't have its command, where a transaction is open or not
abbrev pub session_refusal : Bool → Command → Option Reply
session_refusal true Begin = Some reply.Active
session_refusal false Begin = None
session_refusal active Status = None
session_refusal true c = None
session_refusal false c = Some reply.Idle

-- the first of two refusals
abbrev pub or_else : Option Reply → Option Reply → Option Reply
or_else None second = second
or_else (Some r) second = Some r

-- The first refusal that a command of session s meets after these events: too long, then by the
-- session, then by the object.
unfoldable pub refusal : ℕ → ℕ → List Event → ℕ → Command → Option Reply
refusal sessions objects past s c =
    if is_too_long c then Some reply.TooLong
    else or_else (session_refusal (is_open s past) c)
    (option_and_then (object_refusal sessions objects past s) (object_of c))

abbrev pub has_effect : Deed → Bool
has_effect Nothing = false
has_effect Opens = true
has_effect (Does o act) = true
has_effect (Takes o) = true
has_effect (Closes committed) = true

abbrev pub is_status : Reply → Bool
is_status (reply.Status free locked held) = true
is_status r = false

-- A reply to a command that meets no refusal: `ok` to a begin, a commit or an abort, counts to a
-- status, and to a command on an object the object's own reply, or one of its space or device.
abbrev pub is_answer : Command → Reply → Bool
is_answer Status r = is_status r
is_answer c r = has_effect (deed c r)

-- The reply of an event is the first refusal that its command meets, or an answer where it meets
-- none. The free answer `memory` may stand in its place where the command may take memory.
abbrev pub Causes : ℕ → ℕ → List Event → Event → Type 0
Causes sessions objects past e =
    ((e.reply ≡ reply.Memory) × MayTakeMemory e.command)
    ⊎ MatchOption (refusal sessions objects past e.session e.command)
    (IsTrue (is_answer e.command e.reply)) (λ r. e.reply ≡ r)

-- each event of a history has its cause
abbrev pub AllCaused : ℕ → ℕ → List Event → Type 0
AllCaused sessions objects [] = Unit {0}
AllCaused sessions objects (e ∷ past) = AllCaused sessions objects past
    × Causes sessions objects past e
