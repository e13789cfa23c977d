-- What a transaction answers on a held object, as a reply.
use Rattle.std.specs.Prelude.{◌≡◌, ◌⊎◌, ℕ, ◌+◌, nat_le, if◌then◌else◌, Bool, IsTrue, List, Option}
use Rattle.std.specs.Prelude.{Some, None, Result, Ok, Err}
use Rattle.std.specs.Option.{option_map_or}
use Rattle.eos_ops.specs.declared.outcome.Outcome.{Outcome}
use Rattle.eos_ops.specs.declared.plain.Plain.{Plain}
use Rattle.eos_ops.specs.declared.plain.Plain.TheVariants.{Absent}
use Rattle.eos_ops.specs.declared.reply.Reply.{Reply}
use Rattle.eos_ops.specs.declared.reply.Reply.TheVariants as reply
use Rattle.eos_ops.specs.Objects.{reply_of}
use Rattle.object_body.specs.declared.fails.EditFail.{EditFail}
use Rattle.object_body.specs.declared.fails.EditFail.TheVariants as edit
use Rattle.object_body.specs.declared.fails.LookFail.{LookFail}
use Rattle.object_body.specs.declared.fails.LookFail.TheVariants as look
use Rattle.object_body.specs.Form.{Contents}
use Rattle.shadow_txn.specs.declared.held.Held.{Held}
use Rattle.shadow_txn.specs.Acts.{is_objects_own}
use Rattle.shadow_txn.specs.Held.{held_object}

-- the working bytes of a held object, where bytes are told
abbrev pub working_at : {T : Type 0} → (T → Contents) → ℕ → List (Held T) → Plain
working_at contents o held = option_map_or (λ x. (contents x).working) (held_object o held) Absent

-- the reply to an edit, by what its body answered
abbrev pub made_reply : Result Outcome EditFail → Reply
made_reply (Ok outcome) = reply_of outcome
made_reply (Err (edit.NoSpace pages)) = reply.NoSpace pages
made_reply (Err edit.Fault) = reply.Fault
made_reply (Err edit.Memory) = reply.Memory

-- the reply to a read, by what its body answered
abbrev pub look_reply : Result (List ℕ) LookFail → Reply
look_reply (Ok bytes) = reply.Bytes bytes
look_reply (Err look.Fault) = reply.Fault
look_reply (Err look.Memory) = reply.Memory

-- the length of an object, or that there is none
abbrev pub reply_by_length : Option ℕ → Reply
reply_by_length None = reply.Missing
reply_by_length (Some len) = reply.Length len

-- The n bytes from `at` on aren't all there: the object is absent, or they reach past its end.
abbrev pub refusal_by_length : ℕ → ℕ → Option ℕ → Option Reply
refusal_by_length at n None = Some reply.Missing
refusal_by_length at n (Some len) = if nat_le (at + n) len then None else Some (reply.Range len)

-- a reply of the object itself is the right one
abbrev pub IsOwnRight : Reply → Reply → Type 0
IsOwnRight got right = IsTrue (is_objects_own got) → got ≡ right

-- this reply, or want of memory for the act where acts are kept
abbrev pub IsReplyOrMemory : Bool → Reply → Reply → Type 0
IsReplyOrMemory keeps got right = (got ≡ right) ⊎ (IsTrue keeps × (got ≡ reply.Memory))
