-- Replies that are owed whatever the objects hold: those of the machine are such, and each makes a deed that may come.
use Rattle.std.proofs.Common.{◌≡◌, ℕ, List, [], ◌∷◌, Bool, true, false, cond, Option, Some, None, length, refl, sym}
use Rattle.std.proofs.Common.{ap, subst, ◌∙◌, inl, inr, ◌⊎◌}
use Rattle.std.specs.Prelude.{IsTrue, MatchOption, nat_le, ◌+◌}
use Rattle.eos_ops.specs.declared.command.Command.{Command}
use Rattle.eos_ops.specs.declared.command.Command.TheVariants.{Begin, Create, Destroy, Length, Read, Append, Insert}
use Rattle.eos_ops.specs.declared.command.Command.TheVariants.{Delete, Replace, Commit, Abort, Status}
use Rattle.eos_ops.specs.declared.edit.Edit.TheVariants as edit
use Rattle.eos_ops.specs.declared.outcome.Outcome.{Outcome}
use Rattle.eos_ops.specs.declared.outcome.Outcome.TheVariants as outcome
use Rattle.eos_ops.specs.declared.plain.Plain.{Plain}
use Rattle.eos_ops.specs.declared.plain.Plain.TheVariants.{Absent, Present}
use Rattle.eos_ops.specs.declared.reply.Reply.{Reply}
use Rattle.eos_ops.specs.declared.reply.Reply.TheVariants as reply
use Rattle.eos_ops.specs.Edits.{outcome_in}
use Rattle.eos_ops.specs.Objects.{object_of, with_bytes, reply_in, reply_of, length_in, read_in}
use Rattle.eos_ops.specs.Payloads.{payload_bytes}
use Rattle.eos_ops.specs.Splice.{part}
use Rattle.history.specs.Event.{Event, Deed, Opens, Does, Takes, Closes, Nothing, answered, bounded, is_done, deed}
use Rattle.history.specs.Refusals.{has_effect, is_answer}
use Rattle.history.proofs.EventLaws.{deed-object}
use Rattle.machine.specs.Machine.{Machine, slot_at, is_active, IsSession, AtRest}
use Rattle.machine.specs.Next.{CanUse, CanBegin, MayTouch}
use Rattle.machine.specs.Replies.{refused, answer, is_taking, IsAnswered, Replies, Owes}
use Rattle.machine.specs.Runs.{state_after, IsRun, IsOwedRun}
use Rattle.machine.specs.Sound.{Tracked}
use Rattle.machine.proofs.Answering.{Refuses, refused_refuses, deed_refusal, deed_memory}
use Rattle.machine.proofs.Replying.{answer-object, can_use, can_begin, can_commit, can_abort}
use Rattle.machine.proofs.Tracking.{Tracked-start, Tracked-step}

-- an object's own reply has an effect
outcome_effect : (o : ℕ) (c : Command) (x : Outcome) → has_effect (answered o c (reply_of x)) ≡ true
outcome_effect o c outcome.Done = refl
outcome_effect o c outcome.Exists = refl
outcome_effect o c outcome.Missing = refl
outcome_effect o c (outcome.Range n) = refl

length_effect : (o : ℕ) (c : Command) (x : Plain) → has_effect (answered o c (length_in x)) ≡ true
length_effect o c Absent = refl
length_effect o c (Present x) = refl

read_effect : (o : ℕ) (c : Command) (at n : ℕ) (x : Plain) → has_effect (answered o c (read_in at n x)) ≡ true
read_effect o c at n Absent = refl
read_effect o c at n (Present x) = chosen (nat_le (at + n) (length x))
  where
    chosen : (b : Bool) → has_effect (answered o c (cond b (reply.Bytes (part x at n)) (reply.Range (length x)))) ≡ true
    chosen true = refl
    chosen false = refl

reply_effect : (p : ℕ) (c' : Command) (c : Command) (o : ℕ) (x : Plain) → object_of c ≡ Some o →
    has_effect (answered p c' (reply_in c x)) ≡ true
unfolding reply_in
reply_effect p c' Begin o x on = cc
reply_effect p c' (Create q t) o x on = outcome_effect p c' (outcome_in (edit.Create t) x)
reply_effect p c' (Destroy q) o x on = outcome_effect p c' (outcome_in edit.Destroy x)
reply_effect p c' (Length q) o x on = length_effect p c' x
reply_effect p c' (Read q at n) o x on = read_effect p c' at n x
reply_effect p c' (Append q y) o x on = outcome_effect p c' (outcome_in (edit.Append (payload_bytes y)) x)
reply_effect p c' (Insert q at y) o x on = outcome_effect p c' (outcome_in (edit.Insert at (payload_bytes y)) x)
reply_effect p c' (Delete q at n) o x on = outcome_effect p c' (outcome_in (edit.Delete at n) x)
reply_effect p c' (Replace q at y) o x on = outcome_effect p c' (outcome_in (edit.Replace at (payload_bytes y)) x)
reply_effect p c' Commit o x on = cc
reply_effect p c' Abort o x on = cc
reply_effect p c' Status o x on = cc

taking_effect : (d : Deed) → is_taking d ≡ true → has_effect d ≡ true
taking_effect Opens h = refl
taking_effect (Does o act) h = refl
taking_effect (Takes o) h = refl
taking_effect (Closes committed) h = refl
taking_effect Nothing h = cc

object_answer : (m : Machine) (c : Command) (r : Reply) (o : ℕ) → object_of c ≡ Some o → (r ≡ answer m c)
    ⊎ IsTrue (is_taking (deed c r)) → has_effect (deed c r) ≡ true
object_answer m c r o on so =
    elim so [
      | inl same ↦ ap has_effect (deed-object c r o on)
          ∙ ap (λ x. has_effect (answered o (with_bytes c) x)) (same ∙ answer-object m c o on)
          ∙ reply_effect o (with_bytes c) c o (slot_at m o).working on
      | inr taking ↦ taking_effect (deed c r) taking
    ]

bounds_answer : (m : Machine) (c : Command) (r : Reply) → has_effect (deed c reply.Ok) ≡ true → (r ≡ reply.Ok)
    ⊎ IsTrue (is_taking (deed c r)) → has_effect (deed c r) ≡ true
bounds_answer m c r done so = elim so [
  | inl same ↦ ap (λ x. has_effect (deed c x)) same ∙ done
  | inr taking ↦ taking_effect (deed c r) taking
]

answered_is : (m : Machine) (c : Command) (r : Reply) → IsAnswered m c r → IsTrue (is_answer c r)
answered_is m Begin r so = bounds_answer m Begin r refl so
answered_is m (Create o t) r so = object_answer m (Create o t) r o refl so
answered_is m (Destroy o) r so = object_answer m (Destroy o) r o refl so
answered_is m (Length o) r so = object_answer m (Length o) r o refl so
answered_is m (Read o at n) r so = object_answer m (Read o at n) r o refl so
answered_is m (Append o p) r so = object_answer m (Append o p) r o refl so
answered_is m (Insert o at p) r so = object_answer m (Insert o at p) r o refl so
answered_is m (Delete o at n) r so = object_answer m (Delete o at n) r o refl so
answered_is m (Replace o at p) r so = object_answer m (Replace o at p) r o refl so
answered_is m Commit r so = bounds_answer m Commit r refl so
answered_is m Abort r so = bounds_answer m Abort r refl so
answered_is m Status r so = so

match_is : (m : Machine) (c : Command) (r : Reply) (t : Option Reply) →
    MatchOption t (IsAnswered m c r) (λ x. r ≡ x) → MatchOption t (IsTrue (is_answer c r)) (λ x. r ≡ x)
match_is m c r None so = answered_is m c r so
match_is m c r (Some x) so = so

-- a reply of the machine is owed
pub Owes-replies : (m : Machine) (s : ℕ) (c : Command) (r : Reply) → Replies m s c r → Owes m s c r
Owes-replies m s c r replies = elim replies [ inl memory ↦ inl memory | inr so ↦ inr (match_is m c r (refused m s c) so) ]

-- A run of the machine has owed replies.
pub IsOwedRun-from : (m : Machine) (past : List Event) → IsRun m past → IsOwedRun m past
IsOwedRun-from m [] run = tt
IsOwedRun-from m (e ∷ past) run = (
  IsOwedRun-from m past run.0,
  record {
    session = run.1.session;
    reply =
        Owes-replies (state_after m past) e.session e.command e.reply run.1.reply;
  },
)

touch_nothing : (m : Machine) (s : ℕ) (d : Deed) → d ≡ Nothing → MayTouch m s d
touch_nothing m s d nothing = subst (MayTouch m s) (sym nothing) tt

touch_answered : (m : Machine) (s o : ℕ) (c : Command) (r : Reply) → CanUse m s o → MayTouch m s (answered o c r)
touch_answered m s o c reply.Ok can = can
touch_answered m s o c (reply.Length n) can = can
touch_answered m s o c (reply.Bytes x) can = can
touch_answered m s o c (reply.Range n) can = can
touch_answered m s o c reply.Exists can = can
touch_answered m s o c reply.Missing can = can
touch_answered m s o c (reply.NoSpace n) can = can
touch_answered m s o c reply.Fault can = can
touch_answered m s o c reply.Busy can = tt
touch_answered m s o c reply.Full can = tt
touch_answered m s o c reply.NoObject can = tt
touch_answered m s o c reply.Memory can = tt
touch_answered m s o c reply.Idle can = tt
touch_answered m s o c reply.Active can = tt
touch_answered m s o c reply.TooLong can = tt
touch_answered m s o c reply.Worn can = tt
touch_answered m s o c (reply.Status f l n) can = tt
touch_answered m s o c reply.Again can = tt

touch_object : (m : Machine) (s : ℕ) (c : Command) (r : Reply) (o : ℕ) → object_of c ≡ Some o →
    refused m s c ≡ None → MayTouch m s (deed c r)
touch_object m s c r o on none = subst (MayTouch m s) (sym (deed-object c r o on))
    (touch_answered m s o (with_bytes c) r (can_use m s c o on none))

touch_begin : (m : Machine) (s : ℕ) (b : Bool) → CanBegin m s → MayTouch m s (bounded Begin b)
touch_begin m s true can = can
touch_begin m s false can = tt

touch_commit : (m : Machine) (s : ℕ) (b : Bool) → is_active m s ≡ true → MayTouch m s (bounded Commit b)
touch_commit m s true active = active
touch_commit m s false active = tt

touch_abort : (m : Machine) (s : ℕ) (b : Bool) → is_active m s ≡ true → MayTouch m s (bounded Abort b)
touch_abort m s true active = active
touch_abort m s false active = tt

touch_status : (m : Machine) (s : ℕ) (b : Bool) → MayTouch m s (bounded Status b)
touch_status m s true = tt
touch_status m s false = tt

-- where nothing refuses a command, whatever is answered makes a deed that may come
touch_reply : (m : Machine) (s : ℕ) (c : Command) (r : Reply) → IsSession m s → refused m s c ≡ None → MayTouch m s (deed c r)
touch_reply m s Begin r session none = touch_begin m s (is_done r) (can_begin m s session none)
touch_reply m s (Create o t) r session none = touch_object m s (Create o t) r o refl none
touch_reply m s (Destroy o) r session none = touch_object m s (Destroy o) r o refl none
touch_reply m s (Length o) r session none = touch_object m s (Length o) r o refl none
touch_reply m s (Read o at n) r session none = touch_object m s (Read o at n) r o refl none
touch_reply m s (Append o p) r session none = touch_object m s (Append o p) r o refl none
touch_reply m s (Insert o at p) r session none = touch_object m s (Insert o at p) r o refl none
touch_reply m s (Delete o at n) r session none = touch_object m s (Delete o at n) r o refl none
touch_reply m s (Replace o at p) r session none = touch_object m s (Replace o at p) r o refl none
touch_reply m s Commit r session none = touch_commit m s (is_done r) (can_commit m s none)
touch_reply m s Abort r session none = touch_abort m s (is_done r) (can_abort m s none)
touch_reply m s Status r session none = touch_status m s (is_done r)

-- An owed reply makes a deed that may come.
pub MayTouch-owes : (m : Machine) (s : ℕ) (c : Command) (r : Reply) → IsSession m s → Owes m s c r → MayTouch m s (deed c r)
MayTouch-owes m s c r session owes =
    elim owes [
      | inl memory ↦ touch_nothing m s (deed c r) (ap (deed c) memory.0 ∙ deed_memory c)
      | inr so ↦ by_refusal (refused m s c) refl so
    ]
  where
    by_refusal : (t : Option Reply) → refused m s c ≡ t → MatchOption t (IsTrue (is_answer c r)) (λ x. r ≡ x) → MayTouch m s (deed c r)
    by_refusal None is so = touch_reply m s c r session is
    by_refusal (Some refusal) is so = touch_nothing m s (deed c r)
        (ap (deed c) so ∙ deed_refusal c refusal (subst Refuses is (refused_refuses m s c)))

-- After events with owed replies the machine's roles are those of the events.
pub Tracked-run : (m : Machine) (past : List Event) → AtRest m → IsOwedRun m past → Tracked past (state_after m past)
Tracked-run m [] rest run = Tracked-start m rest
Tracked-run m (e ∷ past) rest run = Tracked-step past (state_after m past) e
    (MayTouch-owes (state_after m past) e.session e.command e.reply run.1.session run.1.reply)
    (Tracked-run m past rest run.0)
