-- From replies to deeds: whoever answers as the machine owes keeps to what may come.
use Rattle.std.proofs.Common.{◌≡◌, ℕ, List, [], ◌∷◌, Bool, true, false, cond, Option, Some, None, refl, sym, ap, subst, ◌∙◌, inl, inr, ◌⊎◌}
use Rattle.std.specs.Prelude.{IsTrue, IsSomeAnd, MatchOption, unwrap_or}
use Rattle.std.specs.Option.{option_map_or, option_and_then}
use Rattle.eos_ops.specs.declared.command.Command.{Command}
use Rattle.eos_ops.specs.declared.command.Command.TheVariants.{Begin, Create, Destroy, Length, Read, Append, Insert}
use Rattle.eos_ops.specs.declared.command.Command.TheVariants.{Delete, Replace, Commit, Abort, Status}
use Rattle.eos_ops.specs.declared.reply.Reply.{Reply}
use Rattle.eos_ops.specs.declared.reply.Reply.TheVariants as reply
use Rattle.eos_ops.specs.Memory.{TakesMemory, MayTakeMemory}
use Rattle.eos_ops.specs.Objects.{object_of, with_bytes, is_too_long, reply_in}
use Rattle.eos_ops.proofs.MemoryLemmas.{takes_may_take}
use Rattle.history.specs.Event.{Event, Nothing, bounded, is_done, deed}
use Rattle.history.specs.Refusals.{session_refusal, or_else, is_status}
use Rattle.history.proofs.EventLaws.{object_of-with_bytes, reply_in-with_bytes, deed-object}
use Rattle.machine.specs.Machine.{Machine, slot_at, seat_at, is_active, IsSession}
use Rattle.machine.specs.Next.{CanUse, CanBegin, May}
use Rattle.machine.specs.Replies.{object_refused, seat_refused, refused, bounds_reply, answer, Answers, is_taking, IsAnswered, Replies}
use Rattle.machine.specs.Runs.{state_after, MayRun, IsRun}
use Rattle.machine.proofs.Answering.{Refuses, refused_refuses, seat_refused-session, deed_refusal, deed_memory}
use Rattle.machine.proofs.Answering.{May-nothing, may_answered, may_taken, usable_object}

or_else_none : (first second : Option Reply) → or_else first second ≡ None → (first ≡ None) × (second ≡ None)
or_else_none None second h = (refl, h)
or_else_none (Some r) second h = absurd (cc)

not_long : (b : Bool) (r : Reply) (x : Option Reply) → cond b (Some r) x ≡ None → x ≡ None
not_long true r x h = absurd (cc)
not_long false r x h = h

-- where nothing refuses a command on an object, a transaction is open
session_active : (active : Bool) (c : Command) (o : ℕ) → object_of c ≡ Some o → session_refusal active c ≡ None → active ≡ true
session_active true c o on none = refl
session_active false Begin o on none = cc
session_active false (Create p t) o on none = cc
session_active false (Destroy p) o on none = cc
session_active false (Length p) o on none = cc
session_active false (Read p at n) o on none = cc
session_active false (Append p q) o on none = cc
session_active false (Insert p at q) o on none = cc
session_active false (Delete p at n) o on none = cc
session_active false (Replace p at q) o on none = cc
session_active false Commit o on none = cc
session_active false Abort o on none = cc
session_active false Status o on none = cc

-- where nothing refuses a command on an object, the object can be used
pub can_use : (m : Machine) (s : ℕ) (c : Command) (o : ℕ) → object_of c ≡ Some o → refused m s c ≡ None → CanUse m s o
unfolding refused
can_use m s c o on none =
    let parts = or_else_none (seat_refused (seat_at m s) c) (option_and_then (object_refused m s) (object_of c))
    (not_long (is_too_long c) reply.TooLong _ none) in
    let active : is_active m s ≡ true = session_active (is_active m s) c o on (sym (seat_refused-session (seat_at m s) c o on) ∙ parts.0) in
    usable_object m s o active (sym (ap (λ (t : Option ℕ). option_and_then (object_refused m s) t) on) ∙ parts.1)

pub answer-object : (m : Machine) (c : Command) (o : ℕ) → object_of c ≡ Some o → answer m c ≡ reply_in c (slot_at m o).working
answer-object m c o on = ap (λ (t : Option ℕ). option_map_or (λ p. reply_in c (slot_at m p).working) t (bounds_reply c)) on

may_object : (m : Machine) (s : ℕ) (c : Command) (r : Reply) (o : ℕ) → object_of c ≡ Some o → refused m s c ≡ None →
    (r ≡ answer m c) ⊎ IsTrue (is_taking (deed c r)) → May m s (deed c r)
may_object m s c r o on none answered_so =
    let can : CanUse m s o = can_use m s c o on none in
    subst (May m s) (sym (deed-object c r o on)) (elim answered_so [
      | inl same ↦ may_answered m s o (with_bytes c) r can (object_of-with_bytes c ∙ on)
          (reply_in-with_bytes c (slot_at m o).working ∙ sym (same ∙ answer-object m c o on))
      | inr taking ↦ may_taken m s o (with_bytes c) r can (sym (ap is_taking (deed-object c r o on)) ∙ taking)
    ])

begin_idle : (active : Bool) → session_refusal active Begin ≡ None → active ≡ false
begin_idle true none = cc
begin_idle false none = refl

commit_active : (active : Bool) → session_refusal active Commit ≡ None → active ≡ true
commit_active true none = refl
commit_active false none = cc

abort_active : (active : Bool) → session_refusal active Abort ≡ None → active ≡ true
abort_active true none = refl
abort_active false none = cc

pub begin_takes : (b : Bool) → is_taking (bounded Begin b) ≡ true → ⊥
begin_takes true h = cc
begin_takes false h = cc

pub commit_takes : (b : Bool) → is_taking (bounded Commit b) ≡ true → ⊥
commit_takes true h = cc
commit_takes false h = cc

pub abort_takes : (b : Bool) → is_taking (bounded Abort b) ≡ true → ⊥
abort_takes true h = cc
abort_takes false h = cc

status_bounds : (b : Bool) → bounded Status b ≡ Nothing
status_bounds true = refl
status_bounds false = refl

-- where nothing refuses a begin, a commit or an abort, it can be done
pub can_begin : (m : Machine) (s : ℕ) → IsSession m s → refused m s Begin ≡ None → CanBegin m s
unfolding refused
can_begin m s session none =
    let first = or_else_none (seat_refused (seat_at m s) Begin) None none in
    record { session = session; idle = begin_idle (is_active m s) (or_else_none (session_refusal (is_active m s) Begin) _ first.0).0 }

pub can_commit : (m : Machine) (s : ℕ) → refused m s Commit ≡ None → is_active m s ≡ true
unfolding refused
can_commit m s none = commit_active (is_active m s) (or_else_none (seat_refused (seat_at m s) Commit) None none).0

pub can_abort : (m : Machine) (s : ℕ) → refused m s Abort ≡ None → is_active m s ≡ true
unfolding refused
can_abort m s none = abort_active (is_active m s) (or_else_none (seat_refused (seat_at m s) Abort) None none).0

may_begin : (m : Machine) (s : ℕ) (r : Reply) → IsSession m s → refused m s Begin ≡ None → IsAnswered m Begin r → May m s (deed Begin r)
may_begin m s r session none so =
    elim so [
      | inl same ↦ subst (λ (x : Reply). May m s (deed Begin x)) (sym same) (can_begin m s session none)
      | inr taking ↦ absurd (begin_takes (is_done r) taking)
    ]

may_commit : (m : Machine) (s : ℕ) (r : Reply) → refused m s Commit ≡ None → IsAnswered m Commit r → May m s (deed Commit r)
may_commit m s r none so =
    elim so [
      | inl same ↦ subst (λ (x : Reply). May m s (deed Commit x)) (sym same) (can_commit m s none)
      | inr taking ↦ absurd (commit_takes (is_done r) taking)
    ]

may_abort : (m : Machine) (s : ℕ) (r : Reply) → refused m s Abort ≡ None → IsAnswered m Abort r → May m s (deed Abort r)
may_abort m s r none so =
    elim so [
      | inl same ↦ subst (λ (x : Reply). May m s (deed Abort x)) (sym same) (can_abort m s none)
      | inr taking ↦ absurd (abort_takes (is_done r) taking)
    ]

may_reply : (m : Machine) (s : ℕ) (c : Command) (r : Reply) → IsSession m s → refused m s c ≡ None → IsAnswered m c r → May m s (deed c r)
may_reply m s Begin r session none so = may_begin m s r session none so
may_reply m s (Create o t) r session none so = may_object m s (Create o t) r o refl none so
may_reply m s (Destroy o) r session none so = may_object m s (Destroy o) r o refl none so
may_reply m s (Length o) r session none so = may_object m s (Length o) r o refl none so
may_reply m s (Read o at n) r session none so = may_object m s (Read o at n) r o refl none so
may_reply m s (Append o p) r session none so = may_object m s (Append o p) r o refl none so
may_reply m s (Insert o at p) r session none so = may_object m s (Insert o at p) r o refl none so
may_reply m s (Delete o at n) r session none so = may_object m s (Delete o at n) r o refl none so
may_reply m s (Replace o at p) r session none so = may_object m s (Replace o at p) r o refl none so
may_reply m s Commit r session none so = may_commit m s r none so
may_reply m s Abort r session none so = may_abort m s r none so
may_reply m s Status r session none so = May-nothing m s (bounded Status (is_done r)) (status_bounds (is_done r))

split_refused : (m : Machine) (s : ℕ) (c : Command) (r : Reply) (t : Option Reply) → IsSession m s →
    refused m s c ≡ t → MatchOption t (IsAnswered m c r) (λ refusal. r ≡ refusal) → May m s (deed c r)
split_refused m s c r None session is so = may_reply m s c r session is so
split_refused m s c r (Some refusal) session is so =
    May-nothing m s (deed c r) (ap (deed c) so ∙ deed_refusal c refusal (subst Refuses is (refused_refuses m s c)))

-- A reply of the machine makes a deed that may come.
pub May-replies : (m : Machine) (s : ℕ) (c : Command) (r : Reply) → IsSession m s → Replies m s c r → May m s (deed c r)
May-replies m s c r session replies =
    elim replies [
      | inl memory ↦ May-nothing m s (deed c r) (ap (deed c) memory.0 ∙ deed_memory c)
      | inr so ↦ split_refused m s c r (refused m s c) session refl so
    ]

pub MayRun-from : (m : Machine) (past : List Event) → IsRun m past → MayRun m past
MayRun-from m [] run = tt
MayRun-from m (e ∷ past) run = (
  MayRun-from m past run.0,
  May-replies (state_after m past) e.session e.command e.reply run.1.session run.1.reply,
)

answer_is : (m : Machine) (c : Command) (r : Reply) → r ≡ answer m c → IsAnswered m c r
answer_is m Begin r same = inl same
answer_is m (Create o t) r same = inl same
answer_is m (Destroy o) r same = inl same
answer_is m (Length o) r same = inl same
answer_is m (Read o at n) r same = inl same
answer_is m (Append o p) r same = inl same
answer_is m (Insert o at p) r same = inl same
answer_is m (Delete o at n) r same = inl same
answer_is m (Replace o at p) r same = inl same
answer_is m Commit r same = inl same
answer_is m Abort r same = inl same
answer_is m Status r same = ap is_status same

due_is : (m : Machine) (c : Command) (r : Reply) (t : Option Reply) → r ≡ unwrap_or t (answer m c) →
    MatchOption t (IsAnswered m c r) (λ refusal. r ≡ refusal)
due_is m c r None same = answer_is m c r same
due_is m c r (Some refusal) same = same

-- The exact replies over plain objects are replies of the machine.
pub Replies-answers : (m : Machine) (s : ℕ) (c : Command) (r : Reply) → Answers m s c r → Replies m s c r
Replies-answers m s c r answers =
    elim answers [
      | inl same ↦ inr (due_is m c r (refused m s c) same)
      | inr lacks ↦ inl (lacks.0, lacks_may (object_of c) lacks.2)
    ]
  where
    lacks_may : (t : Option ℕ) → IsSomeAnd t (λ o. TakesMemory c (slot_at m o).working) → MayTakeMemory c
    lacks_may None takes = absurd takes
    lacks_may (Some o) takes = takes_may_take c (slot_at m o).working takes
