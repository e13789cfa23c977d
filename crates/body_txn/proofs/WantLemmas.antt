-- Where a reply says that memory was wanted, the object asked for some.
use Rattle.std.proofs.Common.{◌≡◌, ℕ, ◌+◌, ◌<◌, Bool, true, false, IsTrue, List, Option, Some, None, Result, Ok, Err}
use Rattle.std.proofs.Common.{refl, sym, ◌∙◌, inl, inr}
use Rattle.std.specs.Prelude.{MatchOption, nat_le, if◌then◌else◌}
use Rattle.eos_ops.specs.declared.edit.Edit.{Edit}
use Rattle.eos_ops.specs.declared.outcome.Outcome.{Outcome}
use Rattle.eos_ops.specs.declared.outcome.Outcome.TheVariants.{Done, Exists, Missing, Range}
use Rattle.eos_ops.specs.declared.reply.Reply.{Reply}
use Rattle.eos_ops.specs.declared.reply.Reply.TheVariants as reply
use Rattle.fault_count.specs.Counts.{Meter}
use Rattle.geometry_model.specs.Numbers.{Numbers}
use Rattle.moment_model.specs.Moment.{ObjectSlot}
use Rattle.moment_model.specs.Run.{Lays}
use Rattle.object_body.specs.declared.fails.EditFail.{EditFail}
use Rattle.object_body.specs.declared.fails.EditFail.TheVariants as failed
use Rattle.object_body.specs.declared.fails.LookFail.{LookFail}
use Rattle.object_body.specs.declared.fails.LookFail.TheVariants as look
use Rattle.object_body.specs.Calls.{Stage}
use Rattle.object_body.specs.Form.{Form, Contents}
use Rattle.object_body.specs.Memory.{EditMayTakeMemory}
use Rattle.shadow_txn.specs.Acts.{is_objects_own}
use Rattle.shadow_txn.proofs.ActLemmas.{no_memory}
use Rattle.body_txn.specs.Calls.{MakesEdit, MakesLook, MakesRead}
use Rattle.body_txn.specs.Replies.{made_reply, look_reply, refusal_by_length, IsReplyOrMemory}
use Rattle.body_txn.proofs.ActLemmas.{refused-or-made}

-- ---- edits

wanted-edit : (answer : Result Outcome EditFail) → made_reply answer ≡ reply.Memory → answer ≡ Err failed.Memory
wanted-edit (Ok Done) is = absurd cc
wanted-edit (Ok Exists) is = absurd cc
wanted-edit (Ok Missing) is = absurd cc
wanted-edit (Ok (Range len)) is = absurd cc
wanted-edit (Err (failed.NoSpace pages)) is = absurd cc
wanted-edit (Err failed.Fault) is = absurd cc
wanted-edit (Err failed.Memory) is = refl

pub edit-wants : (tells : Bool) (suits : Contents → Type 0) (laid : Lays) (may_refuse : Numbers → ObjectSlot → ℕ → Type 0)
    (may_write : Numbers → ObjectSlot → Edit → ObjectSlot → ℕ → Type 0)
    (start : ℕ) (edit : Edit) (said : Reply) (before after : Stage) (used now : Meter)
    → MakesEdit tells suits laid may_refuse may_write start edit said before after used now → said ≡ reply.Memory
    → EditMayTakeMemory edit
edit-wants tells suits laid may_refuse may_write start edit said before after used now made is =
    made.body.memory (wanted-edit made.answer (sym made.reply ∙ is))

-- ---- reads

-- bytes that aren't there are refused by the object itself
own-if : (fits : Bool) (len : ℕ)
    → MatchOption (if fits then None else Some (reply.Range len)) (Unit {0}) (λ r. IsTrue (is_objects_own r))
own-if true len = tt
own-if false len = refl

refused-own : (at n : ℕ) (len : Option ℕ) → MatchOption (refusal_by_length at n len) (Unit {0}) (λ r. IsTrue (is_objects_own r))
refused-own at n None = refl
refused-own at n (Some len) = own-if (nat_le (at + n) len) len

-- with no acts there is no want of memory for one
said-alone : (keeps : Bool) (got right : Reply) → keeps ≡ false → IsReplyOrMemory keeps got right → got ≡ right
said-alone true got right quiet said = absurd cc
said-alone false got right quiet said = elim said [ inl same ↦ same | inr kept ↦ let never = kept.0 in absurd cc ]

wanted-look : (answer : Result (List ℕ) LookFail) → look_reply answer ≡ reply.Memory → answer ≡ Err look.Memory
wanted-look (Ok bytes) is = absurd cc
wanted-look (Err look.Fault) is = absurd cc
wanted-look (Err look.Memory) is = refl

pub read-wants : (tells : Bool) (suits : Contents → Type 0) (may_read : Numbers → ObjectSlot → ℕ → ℕ → Type 0) (keeps : Bool) (at n : ℕ)
    (said : Reply) (form new_form : Form) (told new_told : Contents) (used now : Meter)
    → MakesRead tells suits may_read keeps at n said form new_form told new_told used now → keeps ≡ false → said ≡ reply.Memory → 0 < n
read-wants tells suits may_read keeps at n said form new_form told new_told used now made quiet is =
    refused-or-made (refusal_by_length at n form.working) made (refused-own at n form.working)
    (λ (seen : MakesLook tells suits may_read keeps at n said form new_form told new_told used now).
    seen.body.memory (wanted-look seen.answer (sym (said-alone keeps said (look_reply seen.answer) quiet seen.reply) ∙ is)))
    (λ refusal refused own. absurd (no_memory refusal own (sym (said-alone keeps said refusal quiet refused.0) ∙ is)))
