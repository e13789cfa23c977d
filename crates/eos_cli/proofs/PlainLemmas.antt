-- The replies of plain objects tell of no space and of no fault.
use Rattle.std.proofs.Common.{◌≡◌, ℕ, ◌+◌, inl, inr, Bool, true, false, cond, Option, Some, None, IsTrue, length, refl, subst, sym}
use Rattle.std.specs.Prelude.{nat_le, unwrap_or}
use Rattle.eos_ops.specs.declared.command.Command.{Command}
use Rattle.eos_ops.specs.declared.command.Command.TheVariants.{Begin, Create, Destroy, Length, Read, Append, Insert}
use Rattle.eos_ops.specs.declared.command.Command.TheVariants.{Delete, Replace, Commit, Abort, Status}
use Rattle.eos_ops.specs.declared.edit.Edit.TheVariants as edit
use Rattle.eos_ops.specs.declared.outcome.Outcome.{Outcome}
use Rattle.eos_ops.specs.declared.outcome.Outcome.TheVariants as outcome
use Rattle.eos_ops.specs.declared.plain.Plain.{Plain}
use Rattle.eos_ops.specs.declared.plain.Plain.TheVariants.{Absent, Present}
use Rattle.eos_ops.specs.declared.reply.Reply.{Reply}
use Rattle.eos_ops.specs.declared.reply.Reply.TheVariants as reply
use Rattle.eos_ops.specs.Edits.{outcome_in}
use Rattle.eos_ops.specs.Objects.{reply_in, reply_of, length_in, read_in}
use Rattle.eos_ops.specs.Payloads.{payload_bytes}
use Rattle.eos_ops.specs.Splice.{part}
use Rattle.machine.specs.Machine.{Machine, slot_at}
use Rattle.machine.specs.Replies.{Answers, answer, refused}
use Rattle.machine.proofs.Answering.{is_refusal, Refuses, refused_refuses}
use Rattle.eos_cli.specs.Step.{is_plain_reply}

abbrev IsPlain : Reply → Type 0
IsPlain r = IsTrue (is_plain_reply r)

plain_outcome : (o : Outcome) → IsPlain (reply_of o)
plain_outcome outcome.Done = refl
plain_outcome outcome.Exists = refl
plain_outcome outcome.Missing = refl
plain_outcome (outcome.Range n) = refl

plain_cond : (b : Bool) (r s : Reply) → IsPlain r → IsPlain s → IsPlain (cond b r s)
plain_cond true r s p q = p
plain_cond false r s p q = q

plain_length : (x : Plain) → IsPlain (length_in x)
plain_length Absent = refl
plain_length (Present x) = refl

plain_read : (at n : ℕ) (x : Plain) → IsPlain (read_in at n x)
plain_read at n Absent = refl
plain_read at n (Present x) = plain_cond (nat_le (at + n) (length x)) (reply.Bytes (part x at n)) (reply.Range (length x)) refl refl

plain_in : (c : Command) (x : Plain) → IsPlain (reply_in c x)
unfolding reply_in
plain_in Begin x = refl
plain_in (Create o t) x = plain_outcome (outcome_in (edit.Create t) x)
plain_in (Destroy o) x = plain_outcome (outcome_in edit.Destroy x)
plain_in (Length o) x = plain_length x
plain_in (Read o at n) x = plain_read at n x
plain_in (Append o p) x = plain_outcome (outcome_in (edit.Append (payload_bytes p)) x)
plain_in (Insert o at p) x = plain_outcome (outcome_in (edit.Insert at (payload_bytes p)) x)
plain_in (Delete o at n) x = plain_outcome (outcome_in (edit.Delete at n) x)
plain_in (Replace o at p) x = plain_outcome (outcome_in (edit.Replace at (payload_bytes p)) x)
plain_in Commit x = refl
plain_in Abort x = refl
plain_in Status x = refl

plain_answer : (m : Machine) (c : Command) → IsPlain (answer m c)
plain_answer m Begin = refl
plain_answer m (Create o t) = plain_in (Create o t) (slot_at m o).working
plain_answer m (Destroy o) = plain_in (Destroy o) (slot_at m o).working
plain_answer m (Length o) = plain_in (Length o) (slot_at m o).working
plain_answer m (Read o at n) = plain_in (Read o at n) (slot_at m o).working
plain_answer m (Append o p) = plain_in (Append o p) (slot_at m o).working
plain_answer m (Insert o at p) = plain_in (Insert o at p) (slot_at m o).working
plain_answer m (Delete o at n) = plain_in (Delete o at n) (slot_at m o).working
plain_answer m (Replace o at p) = plain_in (Replace o at p) (slot_at m o).working
plain_answer m Commit = refl
plain_answer m Abort = refl
plain_answer m Status = refl

plain_refusal : (r : Reply) → is_refusal r ≡ true → IsPlain r
plain_refusal reply.Ok h = refl
plain_refusal (reply.Length n) h = refl
plain_refusal (reply.Bytes x) h = refl
plain_refusal (reply.Range n) h = refl
plain_refusal reply.Exists h = refl
plain_refusal reply.Missing h = refl
plain_refusal reply.Busy h = refl
plain_refusal reply.Full h = refl
plain_refusal reply.NoObject h = refl
plain_refusal (reply.NoSpace n) h = absurd (cc)
plain_refusal reply.Fault h = absurd (cc)
plain_refusal reply.Memory h = refl
plain_refusal reply.Idle h = refl
plain_refusal reply.Active h = refl
plain_refusal reply.TooLong h = refl
plain_refusal reply.Worn h = refl
plain_refusal (reply.Status free locked held) h = refl
plain_refusal reply.Again h = refl

plain_due : (first : Option Reply) (r : Reply) → Refuses first → IsPlain r → IsPlain (unwrap_or first r)
plain_due None r refuses plain = plain
plain_due (Some s) r refuses plain = plain_refusal s refuses

-- the reply of a step of the machine
pub plain_reply : (m : Machine) (s : ℕ) (c : Command) (r : Reply) → Answers m s c r → IsPlain r
plain_reply m s c r (inl due) = subst IsPlain (sym due) (plain_due (refused m s c) (answer m c) (refused_refuses m s c) (plain_answer m c))
plain_reply m s c r (inr memory) = subst IsPlain (sym memory.0) refl
