-- What a command on an object is, by the reply that it gets, and which refusal it meets.
use Rattle.std.proofs.Common.{◌≡◌, ℕ, Bool, true, false, Option, Some, None, if◌then◌else◌, is_some, ◌==◌, nat_le}
use Rattle.std.proofs.Common.{length, ◌+◌, refl, ap, ◌∙◌, sym, inl, inr}
use Rattle.std.specs.Option.{option_and_then, option_map_or}
use Rattle.std.proofs.lemmas.Option.{same_Some}
use Rattle.std.proofs.lemmas.Bool.{cases_Bool}
use Rattle.eos_ops.specs.declared.command.Command.{Command}
use Rattle.eos_ops.specs.declared.command.Command.TheVariants.{Begin, Create, Destroy, Length, Read, Append, Insert}
use Rattle.eos_ops.specs.declared.command.Command.TheVariants.{Delete, Replace, Commit, Abort, Status}
use Rattle.eos_ops.specs.declared.edit.Edit.TheVariants as edit
use Rattle.eos_ops.specs.declared.limits.TheConstants.{MAX_HELD, LAST_STAMP}
use Rattle.eos_ops.specs.declared.outcome.Outcome.{Outcome}
use Rattle.eos_ops.specs.declared.outcome.Outcome.TheVariants.{Done, Exists, Missing, Range}
use Rattle.eos_ops.specs.declared.plain.Plain.{Plain}
use Rattle.eos_ops.specs.declared.plain.Plain.TheVariants.{Absent, Present}
use Rattle.eos_ops.specs.declared.reply.Reply.{Reply}
use Rattle.eos_ops.specs.declared.reply.Reply.TheVariants as reply
use Rattle.eos_ops.specs.Edits.{outcome_in}
use Rattle.eos_ops.specs.Objects.{object_of, is_too_long, with_bytes, reply_of, length_in, read_in, reply_in}
use Rattle.eos_ops.specs.Payloads.{payload_bytes}
use Rattle.history.specs.Event.{Does, Nothing, answered, bounded, is_done, deed}
use Rattle.history.specs.Refusals.{session_refusal, or_else}
use Rattle.machine.specs.Machine.{Machine, Seat, slot_at, seat_at, is_active, is_holder, held_by}
use Rattle.machine.specs.Replies.{object_refused, seat_refused, refused}

-- an outcome of an edit is an act
answered-outcome : (o : ℕ) (c : Command) (outcome : Outcome) →
    answered o c (reply_of outcome) ≡ Does o (record { command = c; reply = reply_of outcome })
answered-outcome o c Done = refl
answered-outcome o c Exists = refl
answered-outcome o c Missing = refl
answered-outcome o c (Range n) = refl

answered-length : (o : ℕ) (c : Command) (x : Plain) → answered o c (length_in x) ≡ Does o (record { command = c; reply = length_in x })
answered-length o c Absent = refl
answered-length o c (Present x) = refl

answered-read : (o : ℕ) (c : Command) (at n : ℕ) (x : Plain) →
    answered o c (read_in at n x) ≡ Does o (record { command = c; reply = read_in at n x })
answered-read o c at n Absent = refl
answered-read o c at n (Present x) = elim (cases_Bool (nat_le (at + n) (length x))) [
  | inl within ↦ rw within refl
  | inr past ↦ rw past refl
]

-- the object's own reply makes the command an act on it
pub deed-reply_in : (c : Command) (o : ℕ) (x : Plain) → object_of c ≡ Some o →
    deed c (reply_in c x) ≡ Does o (record { command = with_bytes c; reply = reply_in c x })
unfolding reply_in
deed-reply_in (Length p) o x h = answered-length p _ x
    ∙ ap (λ q. Does q (record { command = Length p; reply = length_in x })) (same_Some p o h)
deed-reply_in (Read p at n) o x h = answered-read p _ at n x
    ∙ ap (λ q. Does q (record { command = Read p at n; reply = read_in at n x })) (same_Some p o h)
deed-reply_in (Create p t) o x h = answered-outcome p _ (outcome_in (edit.Create t) x)
    ∙ ap (λ q. Does q (record { command = Create p t; reply = reply_of (outcome_in (edit.Create t) x) }))
    (same_Some p o h)
deed-reply_in (Destroy p) o x h = answered-outcome p _ (outcome_in edit.Destroy x)
    ∙ ap (λ q. Does q (record { command = Destroy p; reply = reply_of (outcome_in edit.Destroy x) }))
    (same_Some p o h)
deed-reply_in (Append p b) o x h = answered-outcome p _ (outcome_in (edit.Append (payload_bytes b)) x)
    ∙ ap (λ q. Does q (record {
      command = with_bytes (Append p b);
      reply =
          reply_of (outcome_in (edit.Append (payload_bytes b)) x);
    })) (same_Some p o h)
deed-reply_in (Insert p at b) o x h = answered-outcome p _ (outcome_in (edit.Insert at (payload_bytes b)) x)
    ∙ ap (λ q. Does q (record {
      command = with_bytes (Insert p at b);
      reply =
          reply_of (outcome_in (edit.Insert at (payload_bytes b)) x);
    })) (same_Some p o h)
deed-reply_in (Delete p at n) o x h = answered-outcome p _ (outcome_in (edit.Delete at n) x)
    ∙ ap (λ q. Does q (record { command = Delete p at n; reply = reply_of (outcome_in (edit.Delete at n) x) }))
    (same_Some p o h)
deed-reply_in (Replace p at b) o x h = answered-outcome p _ (outcome_in (edit.Replace at (payload_bytes b)) x)
    ∙ ap (λ q. Does q (record {
      command = with_bytes (Replace p at b);
      reply =
          reply_of (outcome_in (edit.Replace at (payload_bytes b)) x);
    })) (same_Some p o h)
deed-reply_in Begin o x h = cc
deed-reply_in Commit o x h = cc
deed-reply_in Abort o x h = cc
deed-reply_in Status o x h = cc

-- which refusal a command on an object meets
abbrev pub refusal_at : Machine → ℕ → ℕ → Option Reply
refusal_at m s o = if is_active m s then object_refused m s o else Some reply.Idle

-- a command on an object wants a transaction, and nothing else of its session
abbrev IsIdleUnlessOpen : Command → Bool → Type 0
IsIdleUnlessOpen c active = session_refusal active c ≡ (if active then None else Some reply.Idle)

session_refusal-object : (c : Command) (o : ℕ) (active : Bool) → object_of c ≡ Some o → IsIdleUnlessOpen c active
session_refusal-object (Create p t) o true h = refl
session_refusal-object (Create p t) o false h = refl
session_refusal-object (Destroy p) o true h = refl
session_refusal-object (Destroy p) o false h = refl
session_refusal-object (Length p) o true h = refl
session_refusal-object (Length p) o false h = refl
session_refusal-object (Read p at n) o true h = refl
session_refusal-object (Read p at n) o false h = refl
session_refusal-object (Append p b) o true h = refl
session_refusal-object (Append p b) o false h = refl
session_refusal-object (Insert p at b) o true h = refl
session_refusal-object (Insert p at b) o false h = refl
session_refusal-object (Delete p at n) o true h = refl
session_refusal-object (Delete p at n) o false h = refl
session_refusal-object (Replace p at b) o true h = refl
session_refusal-object (Replace p at b) o false h = refl
session_refusal-object Begin o active h = cc
session_refusal-object Commit o active h = cc
session_refusal-object Abort o active h = cc
session_refusal-object Status o active h = cc

seat_refused-object : (seat : Seat) (c : Command) (o : ℕ) → object_of c ≡ Some o →
    seat_refused seat c ≡ (if seat.active then None else Some reply.Idle)
seat_refused-object seat (Create p t) o h = session_refusal-object (Create p t) o seat.active h
seat_refused-object seat (Destroy p) o h = session_refusal-object (Destroy p) o seat.active h
seat_refused-object seat (Length p) o h = session_refusal-object (Length p) o seat.active h
seat_refused-object seat (Read p at n) o h = session_refusal-object (Read p at n) o seat.active h
seat_refused-object seat (Append p b) o h = session_refusal-object (Append p b) o seat.active h
seat_refused-object seat (Insert p at b) o h = session_refusal-object (Insert p at b) o seat.active h
seat_refused-object seat (Delete p at n) o h = session_refusal-object (Delete p at n) o seat.active h
seat_refused-object seat (Replace p at b) o h = session_refusal-object (Replace p at b) o seat.active h
seat_refused-object seat Begin o h = cc
seat_refused-object seat Commit o h = cc
seat_refused-object seat Abort o h = cc
seat_refused-object seat Status o h = cc

first-refusal : (long active : Bool) (by_seat : Option Reply) (object : Option ℕ) (o : ℕ) (by_object : ℕ → Option Reply)
    → long ≡ false → by_seat ≡ (if active then None else Some reply.Idle) → object ≡ Some o
    → (if long then Some reply.TooLong else or_else by_seat (option_and_then by_object object))
    ≡ (if active then by_object o else Some reply.Idle)
first-refusal long true by_seat object o by_object short seat is = rw (short, seat, is) refl
first-refusal long false by_seat object o by_object short seat is = rw (short, seat) refl

-- a command on an object that isn't too long is refused for want of a transaction, and then by the object
pub refused-object : (m : Machine) (s : ℕ) (c : Command) (o : ℕ) → is_too_long c ≡ false → object_of c ≡ Some o →
    refused m s c ≡ refusal_at m s o
unfolding refused
refused-object m s c o short is = first-refusal (is_too_long c) (is_active m s) (seat_refused (seat_at m s) c)
    (object_of c) o (object_refused m s) short (seat_refused-object (seat_at m s) c o is) is

-- a refusal is no deed
refusal-cases : (c : Command) (o : ℕ) (r : Reply) (active mine past full busy worn : Bool)
    → (if active then (if mine then None else if past then Some reply.NoObject else if full then Some reply.Full
    else if busy then Some reply.Busy else if worn then Some reply.Worn else None) else Some reply.Idle)
    ≡ Some r
    → answered o c r ≡ Nothing
refusal-cases c o r false mine past full busy worn h = ap (answered o c) (sym (same_Some _ r h))
refusal-cases c o r true true past full busy worn h = cc
refusal-cases c o r true false true full busy worn h = ap (answered o c) (sym (same_Some _ r h))
refusal-cases c o r true false false true busy worn h = ap (answered o c) (sym (same_Some _ r h))
refusal-cases c o r true false false false true worn h = ap (answered o c) (sym (same_Some _ r h))
refusal-cases c o r true false false false false true h = ap (answered o c) (sym (same_Some _ r h))
refusal-cases c o r true false false false false false h = cc

-- a refusal of a command on an object is no deed
pub deed-refusal : (m : Machine) (s : ℕ) (c : Command) (o : ℕ) (r : Reply) → object_of c ≡ Some o →
    refusal_at m s o ≡ Some r → deed c r ≡ Nothing
deed-refusal m s c o r is refusal =
    let none : answered o (with_bytes c) r ≡ Nothing =
    refusal-cases (with_bytes c) o r (is_active m s) (is_holder s (slot_at m o).holder) (nat_le (length m.slots) o)
    (nat_le MAX_HELD (held_by m s))
    (is_some (slot_at m o).holder) ((slot_at m o).stamp == LAST_STAMP) refusal in
    ap (λ object. option_map_or (λ p. answered p (with_bytes c) r) object (bounded c (is_done r))) is ∙ none

-- nor is want of memory
pub deed-memory : (c : Command) (o : ℕ) → object_of c ≡ Some o → deed c reply.Memory ≡ Nothing
deed-memory c o is = ap (λ object. option_map_or (λ p. answered p (with_bytes c) reply.Memory) object (bounded c false)) is

pub deed-too_long : (c : Command) → deed c reply.TooLong ≡ Nothing
deed-too_long (Create p t) = refl
deed-too_long (Destroy p) = refl
deed-too_long (Length p) = refl
deed-too_long (Read p at n) = refl
deed-too_long (Append p b) = refl
deed-too_long (Insert p at b) = refl
deed-too_long (Delete p at n) = refl
deed-too_long (Replace p at b) = refl
deed-too_long Begin = refl
deed-too_long Commit = refl
deed-too_long Abort = refl
deed-too_long Status = refl
