-- What a reply of the machine says of its holders, and of what stands before a command on an object.
use Rattle.std.proofs.Common.{◌≡◌, ℕ, Bool, true, false, List, [], ◌∷◌, Option, Some, None, map, set, if◌then◌else◌}
use Rattle.std.proofs.Common.{refl, sym, ap, subst, ◌∙◌, inl, inr}
use Rattle.std.specs.Option.{option_and_then, unwrap_or}
use Rattle.std.proofs.lemmas.List.{map-set}
use Rattle.eos_ops.specs.declared.command.Command.{Command}
use Rattle.eos_ops.specs.declared.command.Command.TheVariants.{Begin, Create, Destroy, Length, Read, Append, Insert}
use Rattle.eos_ops.specs.declared.command.Command.TheVariants.{Delete, Replace, Commit, Abort, Status}
use Rattle.eos_ops.specs.declared.plain.Plain.{Plain}
use Rattle.eos_ops.specs.declared.plain.Plain.TheVariants.{Absent, Present}
use Rattle.eos_ops.specs.declared.reply.Reply.{Reply}
use Rattle.eos_ops.specs.declared.reply.Reply.TheVariants as reply
use Rattle.eos_ops.specs.Objects.{object_of, is_too_long, reply_in, after_in, with_bytes}
use Rattle.history.specs.Event.{Deed, Opens, Does, Takes, Closes, Nothing, deed, answered}
use Rattle.history.specs.Refusals.{session_refusal, or_else}
use Rattle.history.proofs.EventLaws.{deed-object}
use Rattle.machine.specs.Machine.{Slot, Machine, slot_at, seat_at, is_holder}
use Rattle.machine.specs.Next.{next, worked, taken, settled, released, stamp_of}
use Rattle.machine.specs.Replies.{refused, answer, Answers, seat_refused, object_refused}
use Rattle.machine.proofs.Answering.{is_refusal, Refuses, refused_refuses, deed_refusal, seat_refused-session}
use Rattle.plain_moment.specs.Stored.{holder_in, let_go, holders_after, is_taken, is_look, is_memory}

released_holder : (q committed : Bool) (stamp : ℕ) (slot : Slot) →
    holder_in (if q then released committed stamp slot else slot) ≡ (if q then None else slot.holder)
released_holder true true stamp slot = refl
released_holder true false stamp slot = refl
released_holder false committed stamp slot = refl

settled_holders : (s stamp : ℕ) (committed : Bool) (slots : List Slot) →
    map holder_in (map (settled s committed stamp) slots) ≡ map (let_go s) (map holder_in slots)
settled_holders s stamp committed [] = refl
settled_holders s stamp committed (slot ∷ slots) =
    ap (λ h. h ∷ map holder_in (map (settled s committed stamp) slots)) (released_holder (is_holder s slot.holder) committed stamp slot)
    ∙ ap (λ t. let_go s slot.holder ∷ t) (settled_holders s stamp committed slots)

-- the holders after a deed are those of the machine after it
pub holders_next : (d : Deed) (m : Machine) (s : ℕ) → map holder_in (next m s d).slots ≡ holders_after s d (map holder_in m.slots)
holders_next Opens m s = refl
holders_next (Does o act) m s = map-set holder_in m.slots o (worked s act (slot_at m o))
holders_next (Takes o) m s = map-set holder_in m.slots o (taken s (slot_at m o))
holders_next (Closes committed) m s = settled_holders s (stamp_of m s) committed m.slots
holders_next Nothing m s = refl

answered_holders : (s o : ℕ) (c : Command) (r : Reply) (holders : List (Option ℕ)) →
    holders_after s (answered o c r) holders ≡ (if is_taken r then set holders o (Some s) else holders)
answered_holders s o c reply.Ok holders = refl
answered_holders s o c (reply.Length n) holders = refl
answered_holders s o c (reply.Bytes x) holders = refl
answered_holders s o c (reply.Range n) holders = refl
answered_holders s o c reply.Exists holders = refl
answered_holders s o c reply.Missing holders = refl
answered_holders s o c (reply.NoSpace n) holders = refl
answered_holders s o c reply.Fault holders = refl
answered_holders s o c reply.Busy holders = refl
answered_holders s o c reply.Full holders = refl
answered_holders s o c reply.NoObject holders = refl
answered_holders s o c reply.Memory holders = refl
answered_holders s o c reply.Idle holders = refl
answered_holders s o c reply.Active holders = refl
answered_holders s o c reply.TooLong holders = refl
answered_holders s o c reply.Worn holders = refl
answered_holders s o c (reply.Status f l h) holders = refl
answered_holders s o c reply.Again holders = refl

-- a command on an object gives it to its session where the reply says so
pub taken_holders : (s o : ℕ) (c : Command) (r : Reply) (holders : List (Option ℕ)) → object_of c ≡ Some o →
    holders_after s (deed c r) holders ≡ (if is_taken r then set holders o (Some s) else holders)
taken_holders s o c r holders on = ap (λ d. holders_after s d holders) (deed-object c r o on)
    ∙ answered_holders s o (with_bytes c) r holders

-- the same refusals stand before all commands on an object that aren't too long
session_same : (active : Bool) (c : Command) (o : ℕ) → object_of c ≡ Some o → session_refusal active c ≡ session_refusal active (Length o)
session_same true Begin o on = cc
session_same true (Create p t) o on = refl
session_same true (Destroy p) o on = refl
session_same true (Length p) o on = refl
session_same true (Read p at n) o on = refl
session_same true (Append p q) o on = refl
session_same true (Insert p at q) o on = refl
session_same true (Delete p at n) o on = refl
session_same true (Replace p at q) o on = refl
session_same true Commit o on = cc
session_same true Abort o on = cc
session_same true Status o on = cc
session_same false Begin o on = cc
session_same false (Create p t) o on = refl
session_same false (Destroy p) o on = refl
session_same false (Length p) o on = refl
session_same false (Read p at n) o on = refl
session_same false (Append p q) o on = refl
session_same false (Insert p at q) o on = refl
session_same false (Delete p at n) o on = refl
session_same false (Replace p at q) o on = refl
session_same false Commit o on = cc
session_same false Abort o on = cc
session_same false Status o on = cc

pub refused_same : (m : Machine) (s : ℕ) (c : Command) (o : ℕ) → object_of c ≡ Some o → is_too_long c ≡ false →
    refused m s c ≡ refused m s (Length o)
unfolding refused
refused_same m s c o on short =
    ap (λ b. if b then Some reply.TooLong else or_else (seat_refused (seat_at m s) c)
    (option_and_then (object_refused m s) (object_of c))) short
    ∙ (ap (λ t. or_else (seat_refused (seat_at m s) c) (option_and_then (object_refused m s) t)) on
    ∙ ap (λ t. or_else t (object_refused m s o))
    (seat_refused-session (seat_at m s) c o on
    ∙ (session_same (seat_at m s).active c o on ∙ sym (seat_refused-session (seat_at m s) (Length o) o refl))))

-- a length is looked at
length_looked : (o : ℕ) (object : Plain) → is_look (reply_in (Length o) object) ≡ true
unfolding reply_in
length_looked o Absent = refl
length_looked o (Present x) = refl

refusal_unlooked : (r : Reply) → is_refusal r ≡ true → is_look r ≡ false
refusal_unlooked reply.Ok h = refl
refusal_unlooked (reply.Length n) h = cc
refusal_unlooked (reply.Bytes x) h = refl
refusal_unlooked (reply.Range n) h = refl
refusal_unlooked reply.Exists h = refl
refusal_unlooked reply.Missing h = cc
refusal_unlooked (reply.NoSpace n) h = refl
refusal_unlooked reply.Fault h = refl
refusal_unlooked reply.Busy h = refl
refusal_unlooked reply.Full h = refl
refusal_unlooked reply.NoObject h = refl
refusal_unlooked reply.Memory h = refl
refusal_unlooked reply.Idle h = refl
refusal_unlooked reply.Active h = refl
refusal_unlooked reply.TooLong h = refl
refusal_unlooked reply.Worn h = refl
refusal_unlooked (reply.Status f l h2) h = refl
refusal_unlooked reply.Again h = refl

owed_free : (m : Machine) (s o : ℕ) (r : Reply) (t : Option Reply) → refused m s (Length o) ≡ t →
    r ≡ unwrap_or t (answer m (Length o)) → is_look r ≡ true → t ≡ None
owed_free m s o r None is owed look = refl
owed_free m s o r (Some x) is owed look =
    let refusal : is_refusal x ≡ true = subst Refuses is (refused_refuses m s (Length o)) in
    let bad : true ≡ false = sym look ∙ (ap is_look owed ∙ refusal_unlooked x refusal) in absurd (cc)

owed_refused : (m : Machine) (s o : ℕ) (r : Reply) (t : Option Reply) → r ≡ unwrap_or t (answer m (Length o)) →
    is_look r ≡ false → t ≡ Some r
owed_refused m s o r None owed look =
    let bad : false ≡ true = sym look ∙ (ap is_look owed ∙ length_looked o (slot_at m o).working) in absurd (cc)
owed_refused m s o r (Some x) owed look = ap (λ (y : Reply). Some y) (sym owed)

-- what the reply to a length says of the refusals before it
pub looked_free : (m : Machine) (s o : ℕ) (r : Reply) → Answers m s (Length o) r → is_look r ≡ true → refused m s (Length o) ≡ None
looked_free m s o r answers look = elim answers [
  | inl owed ↦ owed_free m s o r (refused m s (Length o)) refl owed look
  | inr free ↦ free.1
]

pub unlooked_refused : (m : Machine) (s o : ℕ) (r : Reply) → Answers m s (Length o) r → is_look r ≡ false →
    is_memory r ≡ false → refused m s (Length o) ≡ Some r
unlooked_refused m s o r answers look memory = elim answers [
  | inl owed ↦ owed_refused m s o r (refused m s (Length o)) owed look
  | inr free ↦ let bad : false ≡ true = sym memory ∙ ap is_memory free.0 in absurd (cc)
]

-- a look at an object takes it, and changes nothing else
pub looked_next : (m : Machine) (s o : ℕ) (r : Reply) → is_look r ≡ true → next m s (deed (Length o) r) ≡ next m s (Takes o)
unfolding after_in
looked_next m s o (reply.Length n) look = refl
looked_next m s o reply.Missing look = refl
looked_next m s o reply.Ok look = cc
looked_next m s o (reply.Bytes x) look = cc
looked_next m s o (reply.Range n) look = cc
looked_next m s o reply.Exists look = cc
looked_next m s o (reply.NoSpace n) look = cc
looked_next m s o reply.Fault look = cc
looked_next m s o reply.Busy look = cc
looked_next m s o reply.Full look = cc
looked_next m s o reply.NoObject look = cc
looked_next m s o reply.Memory look = cc
looked_next m s o reply.Idle look = cc
looked_next m s o reply.Active look = cc
looked_next m s o reply.TooLong look = cc
looked_next m s o reply.Worn look = cc
looked_next m s o (reply.Status f l h) look = cc
looked_next m s o reply.Again look = cc

-- a refusal is no deed of any command
pub refused_deed : (m : Machine) (s : ℕ) (c d : Command) (r : Reply) → refused m s c ≡ Some r → deed d r ≡ Nothing
refused_deed m s c d r is = deed_refusal d r (subst Refuses is (refused_refuses m s c))
