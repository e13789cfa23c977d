-- A reply that the machine owes, or may give, makes a deed that may come.
use Rattle.std.proofs.Common.{◌≡◌, ℕ, zero, suc, ◌<◌, List, [], ◌∷◌, Bool, true, false, cond, Option, Some, None}
use Rattle.std.proofs.Common.{length, eqb, get_or, refl, sym, ap, subst, ◌∙◌, inl, inr, ◌⊎◌, arith}
use Rattle.std.specs.Prelude.{is_some, nat_le, IfSome}
use Rattle.std.specs.Option.{option_and_then}
use Rattle.std.proofs.lemmas.Bool.{cases_Bool, cond-false}
use Rattle.std.proofs.lemmas.Bool.Decides.{nat_tests}
use Rattle.eos_ops.specs.declared.command.Command.{Command}
use Rattle.eos_ops.specs.declared.command.Command.TheVariants.{Begin, Create, Destroy, Length, Read, Append, Insert}
use Rattle.eos_ops.specs.declared.command.Command.TheVariants.{Delete, Replace, Commit, Abort, Status}
use Rattle.eos_ops.specs.declared.limits.TheConstants.{MAX_HELD, LAST_STAMP}
use Rattle.eos_ops.specs.declared.reply.Reply.{Reply}
use Rattle.eos_ops.specs.declared.reply.Reply.TheVariants as reply
use Rattle.eos_ops.specs.Objects.{object_of, with_bytes, is_too_long, reply_in}
use Rattle.history.specs.Event.{Deed, Nothing, answered, bounded, is_done, deed}
use Rattle.history.specs.Refusals.{session_refusal, or_else}
use Rattle.history.proofs.EventLaws.{deed-object, deed-bounds}
use Rattle.machine.specs.Machine.{Slot, Seat, Machine, no_slot, slot_at, seat_at, is_active, is_holder, held_by}
use Rattle.machine.specs.Next.{CanUse, May}
use Rattle.machine.specs.Replies.{object_refused, seat_refused, refused, is_taking}
use Rattle.machine.proofs.Places.{is_holder-true}

-- the seven refusals
abbrev pub is_refusal : Reply → Bool
is_refusal reply.Busy = true
is_refusal reply.Full = true
is_refusal reply.NoObject = true
is_refusal reply.Idle = true
is_refusal reply.Active = true
is_refusal reply.TooLong = true
is_refusal reply.Worn = true
is_refusal r = false

-- a refusal, or none
abbrev pub Refuses : Option Reply → Type 0
Refuses o = IfSome o (λ r. is_refusal r ≡ true)

or_else_refuses : (first second : Option Reply) → Refuses first → Refuses second → Refuses (or_else first second)
or_else_refuses None second p q = q
or_else_refuses (Some r) second p q = p

cond_refuses : (b : Bool) (x y : Option Reply) → Refuses x → Refuses y → Refuses (cond b x y)
cond_refuses true x y p q = p
cond_refuses false x y p q = q

pub session_refuses : (active : Bool) (c : Command) → Refuses (session_refusal active c)
session_refuses true Begin = refl
session_refuses false Begin = tt
session_refuses true Status = tt
session_refuses false Status = tt
session_refuses true (Create o t) = tt
session_refuses true (Destroy o) = tt
session_refuses true (Length o) = tt
session_refuses true (Read o at n) = tt
session_refuses true (Append o p) = tt
session_refuses true (Insert o at p) = tt
session_refuses true (Delete o at n) = tt
session_refuses true (Replace o at p) = tt
session_refuses true Commit = tt
session_refuses true Abort = tt
session_refuses false (Create o t) = refl
session_refuses false (Destroy o) = refl
session_refuses false (Length o) = refl
session_refuses false (Read o at n) = refl
session_refuses false (Append o p) = refl
session_refuses false (Insert o at p) = refl
session_refuses false (Delete o at n) = refl
session_refuses false (Replace o at p) = refl
session_refuses false Commit = refl
session_refuses false Abort = refl

-- apart from Begin, a seat refuses as the session does
pub seat_refused-session : (seat : Seat) (c : Command) (o : ℕ) → object_of c ≡ Some o → seat_refused seat c ≡ session_refusal seat.active c
seat_refused-session seat Begin o on = cc
seat_refused-session seat (Create p t) o on = refl
seat_refused-session seat (Destroy p) o on = refl
seat_refused-session seat (Length p) o on = refl
seat_refused-session seat (Read p at n) o on = refl
seat_refused-session seat (Append p q) o on = refl
seat_refused-session seat (Insert p at q) o on = refl
seat_refused-session seat (Delete p at n) o on = refl
seat_refused-session seat (Replace p at q) o on = refl
seat_refused-session seat Commit o on = refl
seat_refused-session seat Abort o on = refl
seat_refused-session seat Status o on = refl

seat_refuses : (seat : Seat) (c : Command) → Refuses (seat_refused seat c)
seat_refuses seat Begin = or_else_refuses (session_refusal seat.active Begin)
    (cond (eqb seat.stamp LAST_STAMP) (Some reply.Worn) None) (session_refuses seat.active Begin)
    (cond_refuses (eqb seat.stamp LAST_STAMP) (Some reply.Worn) None refl tt)
seat_refuses seat (Create o t) = session_refuses seat.active (Create o t)
seat_refuses seat (Destroy o) = session_refuses seat.active (Destroy o)
seat_refuses seat (Length o) = session_refuses seat.active (Length o)
seat_refuses seat (Read o at n) = session_refuses seat.active (Read o at n)
seat_refuses seat (Append o p) = session_refuses seat.active (Append o p)
seat_refuses seat (Insert o at p) = session_refuses seat.active (Insert o at p)
seat_refuses seat (Delete o at n) = session_refuses seat.active (Delete o at n)
seat_refuses seat (Replace o at p) = session_refuses seat.active (Replace o at p)
seat_refuses seat Commit = session_refuses seat.active Commit
seat_refuses seat Abort = session_refuses seat.active Abort
seat_refuses seat Status = session_refuses seat.active Status

object_refuses : (m : Machine) (s o : ℕ) → Refuses (object_refused m s o)
object_refuses m s o =
    cond_refuses (is_holder s (slot_at m o).holder) None _ tt
    (cond_refuses (nat_le (length m.slots) o) (Some reply.NoObject) _ refl
    (cond_refuses (nat_le MAX_HELD (held_by m s)) (Some reply.Full) _ refl
    (cond_refuses (is_some (slot_at m o).holder) (Some reply.Busy) _ refl
    (cond_refuses (eqb (slot_at m o).stamp LAST_STAMP) (Some reply.Worn) None refl tt))))

chain_refuses : (m : Machine) (s : ℕ) (t : Option ℕ) → Refuses (option_and_then (object_refused m s) t)
chain_refuses m s None = tt
chain_refuses m s (Some o) = object_refuses m s o

-- what refuses a command is one of the seven
pub refused_refuses : (m : Machine) (s : ℕ) (c : Command) → Refuses (refused m s c)
unfolding refused
refused_refuses m s c =
    cond_refuses (is_too_long c) (Some reply.TooLong) _ refl (or_else_refuses (seat_refused (seat_at m s) c)
    (option_and_then (object_refused m s) (object_of c)) (seat_refuses (seat_at m s) c)
    (chain_refuses m s (object_of c)))

-- a refusal does nothing to an object
answered_refusal : (o : ℕ) (c : Command) (r : Reply) → is_refusal r ≡ true → answered o c r ≡ Nothing
answered_refusal o c reply.Ok h = cc
answered_refusal o c (reply.Length n) h = cc
answered_refusal o c (reply.Bytes x) h = cc
answered_refusal o c (reply.Range n) h = cc
answered_refusal o c reply.Exists h = cc
answered_refusal o c reply.Missing h = cc
answered_refusal o c (reply.NoSpace n) h = cc
answered_refusal o c reply.Fault h = cc
answered_refusal o c reply.Busy h = refl
answered_refusal o c reply.Full h = refl
answered_refusal o c reply.NoObject h = refl
answered_refusal o c reply.Memory h = refl
answered_refusal o c reply.Idle h = refl
answered_refusal o c reply.Active h = refl
answered_refusal o c reply.TooLong h = refl
answered_refusal o c reply.Worn h = refl
answered_refusal o c (reply.Status f l n) h = refl
answered_refusal o c reply.Again h = refl

refusal_undone : (r : Reply) → is_refusal r ≡ true → is_done r ≡ false
refusal_undone reply.Ok h = cc
refusal_undone (reply.Length n) h = refl
refusal_undone (reply.Bytes x) h = refl
refusal_undone (reply.Range n) h = refl
refusal_undone reply.Exists h = refl
refusal_undone reply.Missing h = refl
refusal_undone (reply.NoSpace n) h = refl
refusal_undone reply.Fault h = refl
refusal_undone reply.Busy h = refl
refusal_undone reply.Full h = refl
refusal_undone reply.NoObject h = refl
refusal_undone reply.Memory h = refl
refusal_undone reply.Idle h = refl
refusal_undone reply.Active h = refl
refusal_undone reply.TooLong h = refl
refusal_undone reply.Worn h = refl
refusal_undone (reply.Status f l n) h = refl
refusal_undone reply.Again h = refl

bounded_undone : (c : Command) → bounded c false ≡ Nothing
bounded_undone Begin = refl
bounded_undone (Create o t) = refl
bounded_undone (Destroy o) = refl
bounded_undone (Length o) = refl
bounded_undone (Read o at n) = refl
bounded_undone (Append o p) = refl
bounded_undone (Insert o at p) = refl
bounded_undone (Delete o at n) = refl
bounded_undone (Replace o at p) = refl
bounded_undone Commit = refl
bounded_undone Abort = refl
bounded_undone Status = refl

some_or_none : (t : Option ℕ) → ((o : ℕ) × (t ≡ Some o)) ⊎ (t ≡ None)
some_or_none None = inr refl
some_or_none (Some o) = inl (o, refl)

-- a refusal is no deed
pub deed_refusal : (c : Command) (r : Reply) → is_refusal r ≡ true → deed c r ≡ Nothing
deed_refusal c r refusal =
    elim (some_or_none (object_of c)) [
      | inl on ↦ deed-object c r on.0 on.1 ∙ answered_refusal on.0 (with_bytes c) r refusal
      | inr off ↦ deed-bounds c r off ∙ ap (bounded c) (refusal_undone r refusal) ∙ bounded_undone c
    ]

-- want of memory is no deed
pub deed_memory : (c : Command) → deed c reply.Memory ≡ Nothing
deed_memory c =
    elim (some_or_none (object_of c)) [
      | inl on ↦ deed-object c reply.Memory on.0 on.1
      | inr off ↦ deed-bounds c reply.Memory off ∙ bounded_undone c
    ]

pub May-nothing : (m : Machine) (s : ℕ) (d : Deed) → d ≡ Nothing → May m s d
May-nothing m s d nothing = subst (May m s) (sym nothing) tt

-- an object's reply may come where the object can be used
pub may_answered : (m : Machine) (s o : ℕ) (c : Command) (r : Reply) → CanUse m s o → object_of c ≡ Some o →
    reply_in c (slot_at m o).working ≡ r → May m s (answered o c r)
may_answered m s o c reply.Ok can on same = record { usable = can; object = on; reply = same }
may_answered m s o c (reply.Length n) can on same = record { usable = can; object = on; reply = same }
may_answered m s o c (reply.Bytes x) can on same = record { usable = can; object = on; reply = same }
may_answered m s o c (reply.Range n) can on same = record { usable = can; object = on; reply = same }
may_answered m s o c reply.Exists can on same = record { usable = can; object = on; reply = same }
may_answered m s o c reply.Missing can on same = record { usable = can; object = on; reply = same }
may_answered m s o c (reply.NoSpace n) can on same = can
may_answered m s o c reply.Fault can on same = can
may_answered m s o c reply.Busy can on same = tt
may_answered m s o c reply.Full can on same = tt
may_answered m s o c reply.NoObject can on same = tt
may_answered m s o c reply.Memory can on same = tt
may_answered m s o c reply.Idle can on same = tt
may_answered m s o c reply.Active can on same = tt
may_answered m s o c reply.TooLong can on same = tt
may_answered m s o c reply.Worn can on same = tt
may_answered m s o c (reply.Status f l n) can on same = tt
may_answered m s o c reply.Again can on same = tt

pub may_taken : (m : Machine) (s o : ℕ) (c : Command) (r : Reply) → CanUse m s o →
    is_taking (answered o c r) ≡ true → May m s (answered o c r)
may_taken m s o c reply.Ok can h = absurd (cc)
may_taken m s o c (reply.Length n) can h = absurd (cc)
may_taken m s o c (reply.Bytes x) can h = absurd (cc)
may_taken m s o c (reply.Range n) can h = absurd (cc)
may_taken m s o c reply.Exists can h = absurd (cc)
may_taken m s o c reply.Missing can h = absurd (cc)
may_taken m s o c (reply.NoSpace n) can h = can
may_taken m s o c reply.Fault can h = can
may_taken m s o c reply.Busy can h = tt
may_taken m s o c reply.Full can h = tt
may_taken m s o c reply.NoObject can h = tt
may_taken m s o c reply.Memory can h = tt
may_taken m s o c reply.Idle can h = tt
may_taken m s o c reply.Active can h = tt
may_taken m s o c reply.TooLong can h = tt
may_taken m s o c reply.Worn can h = tt
may_taken m s o c (reply.Status f l n) can h = tt
may_taken m s o c reply.Again can h = tt

-- an object that somebody holds is there
held_present : (slots : List Slot) (s o : ℕ) → is_holder s (get_or slots o no_slot).holder ≡ true → o < length slots
held_present [] s o held = absurd (cc)
held_present (slot ∷ slots) s zero held = omega arith
held_present (slot ∷ slots) s (suc o) held = let rest : o < length slots = held_present slots s o held in omega arith

no_more : (x y : Option Reply) (b : Bool) (r : Reply) → cond b (Some r) x ≡ None → (b ≡ false) × (x ≡ None)
no_more x y true r h = absurd (cc)
no_more x y false r h = (refl, h)

holder_none : (holder : Option ℕ) → is_some holder ≡ false → holder ≡ None
holder_none None h = refl
holder_none (Some t) h = cc

-- where nothing refuses the object, it can be used
pub usable_object : (m : Machine) (s o : ℕ) → is_active m s ≡ true → object_refused m s o ≡ None → CanUse m s o
usable_object m s o active none =
    elim (cases_Bool (is_holder s (slot_at m o).holder)) [
      | inl held ↦ record {
        active = active;
        present = held_present m.slots s o held;
        free =
            inr (is_holder-true s (slot_at m o).holder held);
      }
      | inr other ↦
          let first = no_more _ None (nat_le (length m.slots) o) reply.NoObject
          (sym (cond-false (is_holder s (slot_at m o).holder) None _ other) ∙ none) in
          let second = no_more _ None (nat_le MAX_HELD (held_by m s)) reply.Full first.1 in
          let third = no_more _ None (is_some (slot_at m o).holder) reply.Busy second.1 in
          record { active = active; present = below first.0; free = inl (holder_none (slot_at m o).holder third.0) }
    ]
  where
    below : nat_le (length m.slots) o ≡ false → o < length m.slots
    below h = grind (arith, nat_tests)

-- nothing refuses a status
pub unrefused : (m : Machine) (s : ℕ) → refused m s Status ≡ None
unfolding refused
unrefused m s = elim (cases_Bool (is_active m s)) [ inl active ↦ rw active refl | inr idle ↦ rw idle refl ]
