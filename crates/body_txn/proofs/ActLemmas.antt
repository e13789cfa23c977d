-- The acts of an object lead to its working version, whatever a command makes of it.
use Rattle.std.proofs.Common.{◌≡◌, ℕ, List, [], ◌++◌, Bool, true, false, refl, ap, sym, ◌∙◌, subst, Option, Some, None, inl}
use Rattle.std.proofs.Common.{⊎_elim, arith}
use Rattle.std.specs.Prelude.{◌+◌, IfSome, IfOk, IsTrue, MatchOption, Result, Ok, Err, length, nat_le, if◌then◌else◌}
use Rattle.eos_ops.specs.declared.act.Act.{Act}
use Rattle.eos_ops.specs.declared.command.Command.{Command}
use Rattle.eos_ops.specs.declared.command.Command.TheVariants as command
use Rattle.eos_ops.specs.declared.edit.Edit.{Edit}
use Rattle.eos_ops.specs.declared.end.End.{End}
use Rattle.eos_ops.specs.declared.outcome.Outcome.{Outcome}
use Rattle.eos_ops.specs.declared.plain.Plain.{Plain}
use Rattle.eos_ops.specs.declared.plain.Plain.TheVariants.{Absent, Present}
use Rattle.eos_ops.specs.declared.reply.Reply.{Reply}
use Rattle.eos_ops.specs.declared.reply.Reply.TheVariants as reply
use Rattle.eos_ops.specs.Edits.{outcome_in, edited}
use Rattle.eos_ops.specs.Ends.{last_stamp_of}
use Rattle.eos_ops.specs.Objects.{object_of, with_bytes, reply_in, after_in, reply_of, length_in, read_in}
use Rattle.fault_count.specs.Counts.{Meter, IsUsed}
use Rattle.geometry_model.specs.Numbers.{Numbers}
use Rattle.moment_model.specs.Moment.{ObjectSlot}
use Rattle.moment_model.specs.Run.{Lays}
use Rattle.object_body.specs.declared.fails.EditFail.{EditFail}
use Rattle.object_body.specs.declared.fails.EditFail.TheVariants as failed
use Rattle.object_body.specs.declared.fails.LookFail.{LookFail}
use Rattle.object_body.specs.declared.fails.LookFail.TheVariants as look
use Rattle.object_body.specs.Calls.{Stage, IsEdit}
use Rattle.object_body.specs.Form.{Form, Contents, AreTied}
use Rattle.object_body.specs.Lengths.{length_of, outcome_of}
use Rattle.object_body.proofs.LengthLemmas.{outcome-by_length}
use Rattle.shadow_txn.specs.Acts.{edit_command, is_objects_own, noted, Lead}
use Rattle.shadow_txn.proofs.ActLemmas.{lead-noted, reply_in-length, after_in-length, reply_in-read, after_in-read, reply_in-edit}
use Rattle.shadow_txn.proofs.ActLemmas.{after_in-edit, object_of-edit, with_bytes-edit, own-outcome, no_memory}
use Rattle.shadow_txn.proofs.HalfwayLemmas.{match_step}
use Rattle.body_txn.specs.Acts.{IsLedBy}
use Rattle.body_txn.specs.Calls.{MakesEdit, MakesLook, MakesRead}
use Rattle.body_txn.specs.Replies.{IsOwnRight, IsReplyOrMemory, reply_by_length, refusal_by_length, made_reply, look_reply}

-- An object becomes another one by a command, and the command is noted with its reply.
pub led-noted : {T : Type 0} (tells : Bool) (suits : Contents → Type 0) (form : T → Form) (contents : T → Contents) (keeps : Bool)
    (told : T → Option (List End)) (last : T → ℕ)
    (x y : T) (acts : List Act) (n : ℕ) (c : Command) (r : Reply)
    → object_of c ≡ Some n → with_bytes c ≡ c
    → told y ≡ told x → last y ≡ last x
    → (IsTrue tells → AreTied suits (form y) (contents y))
    → (IsTrue tells → (contents y).committed ≡ (contents x).committed)
    → (IsTrue tells → is_objects_own r ≡ true → (reply_in c (contents x).working ≡ r)
    × (after_in c (contents x).working ≡ (contents y).working))
    → (IsTrue tells → is_objects_own r ≡ false → (contents y).working ≡ (contents x).working)
    → IsLedBy tells suits form contents keeps told last x acts
    → IsLedBy tells suits form contents keeps told last y (acts ++ noted keeps c r)
led-noted tells suits form contents keeps told last x y acts n c r on bytes same stamp tied committed own other led = record {
  tied = tied;
  lead = λ tell.
      subst (λ first. Lead keeps first (acts ++ noted keeps c r) (contents y).working) (sym (committed tell))
      (lead-noted keeps (contents x).committed (contents x).working (contents y).working acts n c r on bytes (own tell) (other tell)
      (led.lead tell));
  ages = subst (λ ends. IfSome ends (λ es. last y ≡ last_stamp_of es)) (sym same)
      (subst (λ n. IfSome (told x) (λ es. n ≡ last_stamp_of es)) (sym stamp) led.ages);
}

-- the length of an object, by its bytes
length-told : (object : Plain) → reply_by_length (length_of object) ≡ length_in object
length-told Absent = refl
length-told (Present bytes) = refl

-- a reply of the object itself isn't want of memory
pub right-reply : (keeps : Bool) (got right : Reply) → IsReplyOrMemory keeps got right → IsOwnRight got right
right-reply keeps got right said = λ own. ⊎_elim (λ (e : got ≡ right). e)
    (λ (m : IsTrue keeps × (got ≡ reply.Memory)). absurd (no_memory got own m.1)) said

pub right-length : (keeps : Bool) (got : Reply) (len : Option ℕ) (object : Plain) → len ≡ length_of object
    → IsReplyOrMemory keeps got (reply_by_length len) → IsOwnRight got (length_in object)
right-length keeps got len object is said = subst (IsOwnRight got) (ap reply_by_length is ∙ length-told object)
    (right-reply keeps got (reply_by_length len) said)

-- a length that was answered
pub led-length : {T : Type 0} (tells : Bool) (suits : Contents → Type 0) (form : T → Form) (contents : T → Contents) (keeps : Bool)
    (told : T → Option (List End)) (last : T → ℕ)
    (x : T) (acts : List Act) (n : ℕ) (r : Reply)
    → (IsTrue tells → IsOwnRight r (length_in (contents x).working))
    → IsLedBy tells suits form contents keeps told last x acts
    → IsLedBy tells suits form contents keeps told last x (acts ++ noted keeps (command.Length n) r)
led-length tells suits form contents keeps told last x acts n r right led =
    led-noted tells suits form contents keeps told last x x acts n (command.Length n) r refl refl refl refl led.tied (λ tell. refl)
    (λ tell own. (reply_in-length n (contents x).working ∙ sym (right tell own), after_in-length n (contents x).working))
    (λ tell none. refl) led

-- What came of an edit, told: the reply is right if it is the object's own, and then the bytes are the edited ones; else
-- they are as before.
pub record IsEditTold (edit : Edit) (said : Reply) (before after : Contents) : Type 0 where
  pub right : IsOwnRight said (reply_of (outcome_in edit before.working))
  pub done : IsTrue (is_objects_own said) → after.working ≡ edited edit before.working
  pub stays : is_objects_own said ≡ false → after.working ≡ before.working
  pub committed : after.committed ≡ before.committed

-- a refusal isn't the object's own reply, and leaves the bytes
refused-told : (edit : Edit) (said : Reply) (before after : Contents) → is_objects_own said ≡ false → after ≡ before
    → IsEditTold edit said before after
refused-told edit said before after other same = record {
  right = λ own. absurd cc;
  done = λ own. absurd cc;
  stays = λ none. ap (λ c. c.working) same;
  committed = ap (λ c. c.committed) same;
}

-- what is said of an edit, answer by answer
edit-said : (tells : Bool) (suits : Contents → Type 0) (laid : Lays) (may_refuse : Numbers → ObjectSlot → ℕ → Type 0)
    (may_write : Numbers → ObjectSlot → Edit → ObjectSlot → ℕ → Type 0)
    (start : ℕ) (edit : Edit) (answer : Result Outcome EditFail) (before after : Stage) (used now : Meter)
    → IsEdit tells suits laid may_refuse may_write start edit answer before after used now → IsTrue tells
    → before.form.working ≡ length_of before.told.working
    → IsEditTold edit (made_reply answer) before.told after.told
edit-said tells suits laid may_refuse may_write start edit (Ok outcome) before after used now body tell tied =
    let told = body.told tell in
    record {
      right = λ own. ap reply_of (body.outcome ∙ ap (outcome_of edit) tied ∙ sym (outcome-by_length edit before.told.working));
      done = λ own. told.working;
      stays = λ other. let own = own-outcome outcome in absurd cc;
      committed = told.committed;
    }
edit-said tells suits laid may_refuse may_write start edit (Err (failed.NoSpace pages)) before after used now body tell tied =
    refused-told edit (reply.NoSpace pages) before.told after.told refl (body.told tell).unmade
edit-said tells suits laid may_refuse may_write start edit (Err failed.Fault) before after used now body tell tied =
    refused-told edit reply.Fault before.told after.told refl (body.told tell).unmade
edit-said tells suits laid may_refuse may_write start edit (Err failed.Memory) before after used now body tell tied =
    refused-told edit reply.Memory before.told after.told refl (body.told tell).unmade

pub edit-told : (tells : Bool) (suits : Contents → Type 0) (laid : Lays) (may_refuse : Numbers → ObjectSlot → ℕ → Type 0)
    (may_write : Numbers → ObjectSlot → Edit → ObjectSlot → ℕ → Type 0)
    (start : ℕ) (edit : Edit) (said : Reply) (before after : Stage) (used now : Meter)
    → MakesEdit tells suits laid may_refuse may_write start edit said before after used now → IsTrue tells
    → before.form.working ≡ length_of before.told.working
    → IsEditTold edit said before.told after.told
edit-told tells suits laid may_refuse may_write start edit said before after used now made tell tied =
    subst (λ r. IsEditTold edit r before.told after.told) (sym made.reply)
    (edit-said tells suits laid may_refuse may_write start edit made.answer before after used now made.body tell tied)

-- the store's numbers stay
edit-numbers-by : (tells : Bool) (suits : Contents → Type 0) (laid : Lays) (may_refuse : Numbers → ObjectSlot → ℕ → Type 0)
    (may_write : Numbers → ObjectSlot → Edit → ObjectSlot → ℕ → Type 0)
    (start : ℕ) (edit : Edit) (answer : Result Outcome EditFail) (before after : Stage) (used now : Meter)
    → IsEdit tells suits laid may_refuse may_write start edit answer before after used now → after.form.numbers ≡ before.form.numbers
edit-numbers-by tells suits laid may_refuse may_write start edit (Ok outcome) before after used now body = body.form.numbers
edit-numbers-by tells suits laid may_refuse may_write start edit (Err fail) before after used now body = ap (λ f. f.numbers) body.unmade

pub edit-numbers : (tells : Bool) (suits : Contents → Type 0) (laid : Lays) (may_refuse : Numbers → ObjectSlot → ℕ → Type 0)
    (may_write : Numbers → ObjectSlot → Edit → ObjectSlot → ℕ → Type 0)
    (start : ℕ) (edit : Edit) (said : Reply) (before after : Stage) (used now : Meter)
    → MakesEdit tells suits laid may_refuse may_write start edit said before after used now → after.form.numbers ≡ before.form.numbers
edit-numbers tells suits laid may_refuse may_write start edit said before after used now made =
    edit-numbers-by tells suits laid may_refuse may_write start edit made.answer before after used now made.body

-- an edit that was made
pub led-edit : {T : Type 0} (tells : Bool) (suits : Contents → Type 0) (form : T → Form) (contents : T → Contents) (keeps : Bool)
    (told : T → Option (List End)) (last : T → ℕ)
    (x y : T) (acts : List Act) (n : ℕ) (e : Edit) (r : Reply)
    → told y ≡ told x → last y ≡ last x → (IsTrue tells → AreTied suits (form y) (contents y))
    → (IsTrue tells → IsEditTold e r (contents x) (contents y))
    → IsLedBy tells suits form contents keeps told last x acts
    → IsLedBy tells suits form contents keeps told last y (acts ++ noted keeps (edit_command n e) r)
led-edit tells suits form contents keeps told last x y acts n e r same stamp tied made led =
    led-noted tells suits form contents keeps told last x y acts n (edit_command n e) r (object_of-edit n e)
    (with_bytes-edit n e) same stamp tied
    (λ tell. (made tell).committed)
    (λ tell own. (
      reply_in-edit n e (contents x).working ∙ sym ((made tell).right own),
      after_in-edit n e (contents x).working
          ∙ sym ((made tell).done own),
    ))
    (λ tell other. (made tell).stays other) led

-- What came of a read, told: the reply is right if it is the object's own, and both versions are as before.
pub record IsReadTold (at n : ℕ) (said : Reply) (before after : Contents) : Type 0 where
  pub right : IsOwnRight said (read_in at n before.working)
  pub same : after ≡ before

refused-if : (fits : Bool) (bytes : Reply) (len : ℕ)
    → MatchOption (if fits then None else Some (reply.Range len)) (Unit {0}) (λ r. (if fits then bytes else reply.Range len) ≡ r)
refused-if true bytes len = tt
refused-if false bytes len = refl

-- bytes that aren't there are refused by the length
refused-by-length : (at n : ℕ) (object : Plain)
    → MatchOption (refusal_by_length at n (length_of object)) (Unit {0}) (λ r. read_in at n object ≡ r)
refused-by-length at n Absent = refl
refused-by-length at n (Present x) = refused-if (nat_le (at + n) (length x)) _ (length x)

pub refused-or-made : {A : Type 0} {P R : Type 0} {Q S : A → Type 0} (o : Option A) → MatchOption o P Q
    → MatchOption o (Unit {0}) S → (P → R)
    → ((a : A) → Q a → S a → R) → R
refused-or-made None made right look refuse = look made
refused-or-made (Some a) made right look refuse = refuse a made right

look-said : (keeps : Bool) (at n : ℕ) (said : Reply) (told : Contents) (answer : Result (List ℕ) LookFail)
    → IfOk answer (λ bytes. reply.Bytes bytes ≡ read_in at n told.working) → IsReplyOrMemory keeps said (look_reply answer)
    → IsOwnRight said (read_in at n told.working)
look-said keeps at n said told (Ok bytes) is reply = subst (IsOwnRight said) is (right-reply keeps said _ reply)
look-said keeps at n said told
    (Err look.Fault) is reply = λ own. let e = right-reply keeps said _ reply own in let wrong = ap is_objects_own e in absurd cc
look-said keeps at n said told
    (Err look.Memory) is reply = λ own. let e = right-reply keeps said _ reply own in let wrong = ap is_objects_own e in absurd cc

pub read-told : (tells : Bool) (suits : Contents → Type 0) (may_read : Numbers → ObjectSlot → ℕ → ℕ → Type 0) (keeps : Bool) (at n : ℕ)
    (said : Reply)
    (form new_form : Form) (told new_told : Contents) (used now : Meter)
    → MakesRead tells suits may_read keeps at n said form new_form told new_told used now → IsTrue tells
    → form.working ≡ length_of told.working
    → IsReadTold at n said told new_told
read-told tells suits may_read keeps at n said form new_form told new_told used now made tell tied =
    refused-or-made (refusal_by_length at n form.working) made
    (subst (λ len. MatchOption (refusal_by_length at n len) (Unit {0}) (λ r. read_in at n told.working ≡ r)) (sym tied)
    (refused-by-length at n told.working))
    (λ (seen : MakesLook tells suits may_read keeps at n said form new_form told new_told used now). record {
      right = look-said keeps at n said told seen.answer (seen.body.bytes tell) seen.reply;
      same = seen.body.kept tell;
    })
    (λ refusal refused right. record {
      right = subst (IsOwnRight said) (sym right) (right-reply keeps said refusal refused.0);
      same = refused.2;
    })

-- what is answered where no act is kept is answered where acts are
pub said-or_memory : (keeps : Bool) (got right : Reply) → IsReplyOrMemory false got right → IsReplyOrMemory keeps got right
said-or_memory keeps got right said = ⊎_elim (λ (e : got ≡ right). inl e) (λ (m : IsTrue false × (got ≡ reply.Memory)). absurd cc) said

-- a read with the reply that its act leaves
pub read-said : (tells : Bool) (suits : Contents → Type 0) (may_read : Numbers → ObjectSlot → ℕ → ℕ → Type 0) (keeps : Bool) (at n : ℕ)
    (got said : Reply)
    (form new_form : Form) (told new_told : Contents) (used now : Meter)
    → ((right : Reply) → IsReplyOrMemory false got right → IsReplyOrMemory keeps said right)
    → MakesRead tells suits may_read false at n got form new_form told new_told used now
    → MakesRead tells suits may_read keeps at n said form new_form told new_told used now
read-said tells suits may_read keeps at n got said form new_form told new_told used now step made =
    match_step (refusal_by_length at n form.working)
    (λ (seen : MakesLook tells suits may_read false at n got form new_form told new_told used now).
    record { answer = seen.answer; reply = step (look_reply seen.answer) seen.reply; body = seen.body })
    (λ refusal fact. (step refusal fact.0, fact.1, fact.2, fact.3)) made

no-fact : {A : Type 0} (o : Option A) → MatchOption o (Unit {0}) (λ a. Unit {0})
no-fact None = tt
no-fact (Some a) = tt

-- the form stays
pub read-form : (tells : Bool) (suits : Contents → Type 0) (may_read : Numbers → ObjectSlot → ℕ → ℕ → Type 0) (keeps : Bool) (at n : ℕ)
    (said : Reply)
    (form new_form : Form) (told new_told : Contents) (used now : Meter)
    → MakesRead tells suits may_read keeps at n said form new_form told new_told used now → new_form ≡ form
read-form tells suits may_read keeps at n said form new_form told new_told used now made =
    refused-or-made {S = λ r. Unit {0}} (refusal_by_length at n form.working) made (no-fact (refusal_by_length at n form.working))
    (λ (seen : MakesLook tells suits may_read keeps at n said form new_form told new_told used now). seen.body.same)
    (λ refusal refused fact. refused.1)

-- the port was used, or not at all
pub read-port : (tells : Bool) (suits : Contents → Type 0) (may_read : Numbers → ObjectSlot → ℕ → ℕ → Type 0) (keeps : Bool) (at n : ℕ)
    (said : Reply)
    (form new_form : Form) (told new_told : Contents) (used now : Meter)
    → MakesRead tells suits may_read keeps at n said form new_form told new_told used now → IsUsed used now
read-port tells suits may_read keeps at n said form new_form told new_told used now made =
    refused-or-made {S = λ r. Unit {0}} (refusal_by_length at n form.working) made (no-fact (refusal_by_length at n form.working))
    (λ (seen : MakesLook tells suits may_read keeps at n said form new_form told new_told used now). seen.body.port)
    (λ refusal refused fact. subst (IsUsed used) (sym refused.3)
    (record { page = refl; faults = omega arith; read = omega arith; written = omega arith }))

-- a read that was answered
pub led-read : {T : Type 0} (tells : Bool) (suits : Contents → Type 0) (form : T → Form) (contents : T → Contents) (keeps : Bool)
    (told : T → Option (List End)) (last : T → ℕ)
    (x y : T) (acts : List Act) (n at len : ℕ) (r : Reply)
    → told y ≡ told x → last y ≡ last x → form y ≡ form x → (IsTrue tells → IsReadTold at len r (contents x) (contents y))
    → IsLedBy tells suits form contents keeps told last x acts
    → IsLedBy tells suits form contents keeps told last y (acts ++ noted keeps (command.Read n at len) r)
led-read tells suits form contents keeps told last x y acts n at len r same stamp lengths made led =
    led-noted tells suits form contents keeps told last x y acts n (command.Read n at len) r refl refl same stamp
    (λ tell. subst (λ f. AreTied suits f (contents y)) (sym lengths)
    (subst (AreTied suits (form x)) (sym (made tell).same) (led.tied tell)))
    (λ tell. ap (λ c. c.committed) (made tell).same)
    (λ tell own. (
      reply_in-read n at len (contents x).working ∙ sym ((made tell).right own),
      after_in-read n at len (contents x).working
          ∙ sym (ap (λ c. c.working) (made tell).same),
    ))
    (λ tell other. ap (λ c. c.working) (made tell).same) led

-- an object that was just taken: nothing was done to it
pub led-new : {T : Type 0} (tells : Bool) (suits : Contents → Type 0) (form : T → Form) (contents : T → Contents) (keeps : Bool)
    (told : T → Option (List End)) (last : T → ℕ)
    (x : T) → (IsTrue tells → AreTied suits (form x) (contents x)) → (form x).is_resting ≡ true
    → IfSome (told x) (λ ends. last x ≡ last_stamp_of ends) → IsLedBy tells suits form contents keeps told last x []
led-new tells suits form contents false told last x tied rests ages = record { tied = tied; lead = λ tell. refl; ages = ages }
led-new tells suits form contents true told last x tied rests ages =
    record { tied = tied; lead = λ tell. (tt, sym ((tied tell).rests rests).1); ages = ages }
