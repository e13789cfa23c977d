-- What a command does to the held object that it is on, and to the transaction.
use Rattle.std.specs.Prelude.{◌≡◌, ◌⊎◌, ℕ, Bool, IsTrue, List, Some, MatchOption, Result}
use Rattle.eos_ops.specs.declared.act.Act.{Act}
use Rattle.eos_ops.specs.declared.edit.Edit.{Edit}
use Rattle.eos_ops.specs.declared.outcome.Outcome.{Outcome}
use Rattle.eos_ops.specs.declared.reply.Reply.{Reply}
use Rattle.fault_count.specs.Counts.{Meter}
use Rattle.geometry_model.specs.Numbers.{Numbers}
use Rattle.moment_model.specs.Moment.{ObjectSlot}
use Rattle.moment_model.specs.Run.{Lays}
use Rattle.object_body.specs.declared.fails.EditFail.{EditFail}
use Rattle.object_body.specs.declared.fails.LookFail.{LookFail}
use Rattle.object_body.specs.Calls.{Stage, IsEdit, IsBodyRead}
use Rattle.object_body.specs.Form.{Form, Contents}
use Rattle.shadow_txn.specs.declared.held.Held.{Held}
use Rattle.shadow_txn.specs.Held.{held_object, with_object, done_to}
use Rattle.shadow_txn.specs.Transaction.{Transaction, holding, noting}
use Rattle.body_txn.specs.Replies.{made_reply, look_reply, refusal_by_length, IsReplyOrMemory}

-- A command on object o, which is held: the object became what the command makes of it, and these
-- acts were noted.
pub record IsCallOn {T : Type 0} (o : ℕ) (Makes : T → T → Type 0) (acts : List Act)
    (old new : Transaction T) : Type 0 where
  pub was : T
  pub now : T
  pub found : held_object o old.held ≡ Some was
  pub made : Makes was now
  pub held : new ≡ noting o acts (holding old (with_object o now old.held))

-- the same of the held object alone
pub record IsCallOf {T : Type 0} (Makes : T → T → Type 0) (acts : List Act)
    (old new : Held T) : Type 0 where
  pub now : T
  pub made : Makes old.object now
  pub held : new ≡ done_to old now acts

-- the command was made; or acts are kept, there was no room for its act, and nothing happened
abbrev pub OrNoRoom : Bool → Type 0 → Type 0 → Type 0
OrNoRoom keeps Untouched Made = (IsTrue keeps × Untouched) ⊎ Made

-- An edit of a body, handed up unopened, with the reply to it.
pub record MakesEdit (tells : Bool) (suits : Contents → Type 0) (laid : Lays)
    (may_refuse : Numbers → ObjectSlot → ℕ → Type 0)
    (may_write : Numbers → ObjectSlot → Edit → ObjectSlot → ℕ → Type 0) (start : ℕ) (edit : Edit)
    (said : Reply) (before after : Stage) (used now : Meter) : Type 0 where
  pub answer : Result Outcome EditFail
  pub reply : said ≡ made_reply answer
  pub body : IsEdit tells suits laid may_refuse may_write start edit answer before after used now

-- A read of a body, handed up unopened, with the reply to it.
pub record MakesLook (tells : Bool) (suits : Contents → Type 0)
    (may_read : Numbers → ObjectSlot → ℕ → ℕ → Type 0) (keeps : Bool) (at n : ℕ) (said : Reply)
    (form new_form : Form) (told new_told : Contents) (used now : Meter) : Type 0 where
  pub answer : Result (List ℕ) LookFail
  pub reply : IsReplyOrMemory keeps said (look_reply answer)
  pub body : IsBodyRead tells suits may_read at n answer form new_form told new_told used now

-- The bytes aren't all there, which is answered by the length alone; or they are read.
abbrev pub MakesRead : Bool → (Contents → Type 0) → (Numbers → ObjectSlot → ℕ → ℕ → Type 0) → Bool
    → ℕ → ℕ → Reply → Form → Form → Contents → Contents → Meter → Meter → Type 0
MakesRead tells suits may_read keeps at n said form new_form told new_told used now =
    MatchOption (refusal_by_length at n form.working)
    (MakesLook tells suits may_read keeps at n said form new_form told new_told used now)
    (λ refusal. IsReplyOrMemory keeps said refusal × (new_form ≡ form) × (new_told ≡ told) ×
    (now ≡ used))
