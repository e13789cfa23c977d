-- Which reply the machine owes to a command: the first refusal, or the object's own reply.
use Rattle.std.specs.Prelude.{◌≡◌, ℕ, ◌⊎◌, Bool, true, false, nat_le, ◌==◌, Option, Some, None}
use Rattle.std.specs.Prelude.{length, is_some, unwrap_or, IsTrue, IsSomeAnd, MatchOption}
use Rattle.std.specs.Prelude.{if◌then◌else◌}
use Rattle.std.specs.Option.{option_and_then, option_map_or}
use Rattle.eos_ops.specs.declared.command.Command.{Command}
use Rattle.eos_ops.specs.declared.command.Command.TheVariants.{Begin, Status}
use Rattle.eos_ops.specs.declared.limits.TheConstants.{MAX_HELD, LAST_STAMP}
use Rattle.eos_ops.specs.declared.reply.Reply.{Reply}
use Rattle.eos_ops.specs.declared.reply.Reply.TheVariants as reply
use Rattle.eos_ops.specs.Memory.{TakesMemory, MayTakeMemory}
use Rattle.eos_ops.specs.Objects.{object_of, is_too_long, reply_in}
use Rattle.history.specs.Event.{Deed, Opens, Does, Takes, Closes, Nothing, deed}
use Rattle.history.specs.Refusals.{session_refusal, or_else, is_status, is_answer}
use Rattle.machine.specs.Machine.{Machine, Seat, slot_at, seat_at, is_holder, held_by}
use Rattle.machine.specs.Next.{next}

-- why session s can't have object o; an object that it holds meets none of these
abbrev pub object_refused : Machine → ℕ → ℕ → Option Reply
object_refused m s o =
    if is_holder s (slot_at m o).holder then None
    else if nat_le (length m.slots) o then Some reply.NoObject
    else if nat_le MAX_HELD (held_by m s) then Some reply.Full
    else if is_some (slot_at m o).holder then Some reply.Busy
    else if (slot_at m o).stamp == LAST_STAMP then Some reply.Worn
    else None

-- a session whose stamp is the last one begins no transaction more
abbrev pub seat_refused : Seat → Command → Option Reply
seat_refused seat Begin = or_else (session_refusal seat.active Begin)
    (if seat.stamp == LAST_STAMP then Some reply.Worn else None)
seat_refused seat c = session_refusal seat.active c

-- The first refusal that a command meets: too long, then by the session, then by the object.
unfoldable pub refused : Machine → ℕ → Command → Option Reply
refused m s c =
    if is_too_long c then Some reply.TooLong
    else or_else (seat_refused (seat_at m s) c) (option_and_then (object_refused m s) (object_of c))

-- a reply to a command on no object, where nothing refuses it; plain objects have no pages to count
abbrev pub bounds_reply : Command → Reply
bounds_reply Status = reply.Status 0 0 0
bounds_reply c = reply.Ok

-- the reply to a command that nothing refuses
abbrev pub answer : Machine → Command → Reply
answer m c = option_map_or (λ o. reply_in c (slot_at m o).working) (object_of c) (bounds_reply c)

-- the reply that is due to session s
abbrev pub due : Machine → ℕ → Command → Reply
due m s c = unwrap_or (refused m s c) (answer m c)

-- the reply is want of memory, where an object would have answered and its answer takes memory
abbrev pub LacksMemory : Machine → ℕ → Command → Reply → Type 0
LacksMemory m s c r = (r ≡ reply.Memory) × (refused m s c ≡ None)
    × IsSomeAnd (object_of c) (λ o. TakesMemory c (slot_at m o).working)

-- the reply is the one due, or want of memory takes its place
abbrev pub Answers : Machine → ℕ → Command → Reply → Type 0
Answers m s c r = (r ≡ due m s c) ⊎ LacksMemory m s c r

-- One step over plain objects: the reply by `Answers`, and the state by the deed of what was
-- answered. After `memory`, and after each refusal, nothing has changed: an object that wasn't
-- held isn't held now.
pub record IsStep (m : Machine) (s : ℕ) (c : Command) (r : Reply) (m' : Machine) : Type 0 where
  pub reply : Answers m s c r
  pub state : m' ≡ next m s (deed c r)

abbrev pub is_taking : Deed → Bool
is_taking (Takes o) = true
is_taking Opens = false
is_taking (Does o act) = false
is_taking (Closes committed) = false
is_taking Nothing = false

-- a reply that nothing refuses, over any store: the machine's, or one of the space or the device
-- of the object
abbrev pub IsAnswered : Machine → Command → Reply → Type 0
IsAnswered m Status r = IsTrue (is_status r)
IsAnswered m c r = (r ≡ answer m c) ⊎ IsTrue (is_taking (deed c r))

-- What every layer keeps to: the first refusal, or an answer where there is none; and want of
-- memory where the command may take memory, also where its line is read.
abbrev pub Replies : Machine → ℕ → Command → Reply → Type 0
Replies m s c r =
    ((r ≡ reply.Memory) × MayTakeMemory c)
    ⊎ MatchOption (refused m s c) (IsAnswered m c r) (λ refusal. r ≡ refusal)

-- What is owed over a device that tells nothing: as `Replies`, but an answer is of whatever
-- contents. The first refusal doesn't depend on contents.
abbrev pub Owes : Machine → ℕ → Command → Reply → Type 0
Owes m s c r =
    ((r ≡ reply.Memory) × MayTakeMemory c)
    ⊎ MatchOption (refused m s c) (IsTrue (is_answer c r)) (λ refusal. r ≡ refusal)
