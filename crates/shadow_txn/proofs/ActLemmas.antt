-- What is noted of a command, and that the acts of an object lead to its working version.
use Rattle.std.proofs.Common.{◌≡◌, ℕ, ◌+◌, List, [], ◌∷◌, ◌++◌, Bool, true, false, refl, ap, sym, ◌∙◌, subst}
use Rattle.std.proofs.Common.{append-nil, Option, Some, None, inl, inr}
use Rattle.std.specs.Prelude.{Result, Ok, Err, IfSome, IfOk, OnErr, IsTrue, if◌then◌else◌, unwrap_or}
use Rattle.std.proofs.lemmas.Bool.{cases_Bool}
use Rattle.eos_ops.specs.declared.act.Act.{Act}
use Rattle.eos_ops.specs.declared.command.Command.{Command}
use Rattle.eos_ops.specs.declared.command.Command.TheVariants as command
use Rattle.eos_ops.specs.declared.edit.Edit.{Edit}
use Rattle.eos_ops.specs.declared.edit.Edit.TheVariants.{Create, Destroy, Append, Insert, Delete, Replace}
use Rattle.eos_ops.specs.declared.end.End.{End}
use Rattle.eos_ops.specs.declared.outcome.Outcome.{Outcome}
use Rattle.eos_ops.specs.declared.outcome.Outcome.TheVariants.{Done, Exists, Missing, Range}
use Rattle.eos_ops.specs.declared.plain.Plain.{Plain}
use Rattle.eos_ops.specs.declared.reply.Reply.{Reply}
use Rattle.eos_ops.specs.declared.reply.Reply.TheVariants as reply
use Rattle.eos_ops.specs.Edits.{outcome_in, edited}
use Rattle.eos_ops.specs.Ends.{last_stamp_of}
use Rattle.eos_ops.specs.Objects.{object_of, with_bytes, reply_in, after_in, reply_of, length_in, read_in}
use Rattle.eos_ops.proofs.EditLemmas.{edited-refused}
use Rattle.history.specs.Event.{answered}
use Rattle.history.proofs.Acts.{RightAt-push, replayed-push}
use Rattle.history.proofs.EventLaws.{deed-object}
use Rattle.shadow_txn.specs.declared.fails.TxnFail.{TxnFail}
use Rattle.shadow_txn.specs.declared.fails.TxnFail.TheVariants as fail
use Rattle.shadow_txn.specs.declared.held.Held.{Held}
use Rattle.shadow_txn.specs.declared.plain_object.PlainObject.{PlainObject}
use Rattle.shadow_txn.specs.Acts.{edit_command, act_of, is_objects_own, noted, Lead, IsLed, OrMemory}
use Rattle.shadow_txn.specs.Held.{done_to}
use Rattle.shadow_txn.specs.Objects.{working_of, edited_object}
use Rattle.shadow_txn.specs.Replies.{length_reply, bytes_reply}

act_of-answered : (n : ℕ) (c : Command) (r : Reply) →
    act_of (answered n c r) ≡ (if is_objects_own r then record { command = c; reply = r } ∷ [] else [])
act_of-answered n c reply.Ok = refl
act_of-answered n c (reply.Length k) = refl
act_of-answered n c (reply.Bytes x) = refl
act_of-answered n c (reply.Range k) = refl
act_of-answered n c reply.Exists = refl
act_of-answered n c reply.Missing = refl
act_of-answered n c reply.Busy = refl
act_of-answered n c reply.Full = refl
act_of-answered n c reply.NoObject = refl
act_of-answered n c (reply.NoSpace k) = refl
act_of-answered n c reply.Fault = refl
act_of-answered n c reply.Memory = refl
act_of-answered n c reply.Idle = refl
act_of-answered n c reply.Active = refl
act_of-answered n c reply.TooLong = refl
act_of-answered n c reply.Worn = refl
act_of-answered n c (reply.Status f l k) = refl
act_of-answered n c reply.Again = refl

-- what is noted of a command on an object that has its bytes
noted-answer : (n : ℕ) (c : Command) (r : Reply) →
    object_of c ≡ Some n → with_bytes c ≡ c
    → noted true c r ≡ (if is_objects_own r then record { command = c; reply = r } ∷ [] else [])
noted-answer n c r on bytes = ap act_of (deed-object c r n on) ∙ ap (λ k. act_of (answered n k r)) bytes ∙ act_of-answered n c r

pub noted-own : (n : ℕ) (c : Command) (r : Reply) →
    object_of c ≡ Some n → with_bytes c ≡ c → is_objects_own r ≡ true
    → noted true c r ≡ record { command = c; reply = r } ∷ []
noted-own n c r on bytes own = noted-answer n c r on bytes ∙ ap (λ (b : Bool). if b then record { command = c; reply = r } ∷ [] else []) own

pub noted-none : (n : ℕ) (c : Command) (r : Reply) →
    object_of c ≡ Some n → with_bytes c ≡ c →
    is_objects_own r ≡ false → noted true c r ≡ []
noted-none n c r on bytes other = noted-answer n c r on bytes
    ∙ ap (λ (b : Bool). if b then record { command = c; reply = r } ∷ [] else []) other

lead-push : (x w : Plain) (acts : List Act) (a : Act) → Lead true x acts w → reply_in a.command w ≡ a.reply →
    Lead true x (acts ++ a ∷ []) (after_in a.command w)
lead-push x w acts a lead right =
    (RightAt-push acts a x lead.0 (ap (reply_in a.command) lead.1 ∙ right), replayed-push acts a x ∙ ap (after_in a.command) lead.1)

-- Acts lead on to the version after a command, if what was noted of it is right.
pub lead-noted : (tells : Bool) (x w y : Plain) (acts : List Act) (n : ℕ) (c : Command) (r : Reply) →
    object_of c ≡ Some n → with_bytes c ≡ c
    → (is_objects_own r ≡ true → (reply_in c w ≡ r) × (after_in c w ≡ y)) → (is_objects_own r ≡ false → y ≡ w)
    → Lead tells x acts w → Lead tells x (acts ++ noted tells c r) y
lead-noted false x w y acts n c r on bytes own other lead = append-nil acts ∙ lead
lead-noted true x w y acts n c r on bytes own other lead =
    elim (cases_Bool (is_objects_own r)) [
      | inl its ↦
          subst (λ more. Lead true x (acts ++ more) y) (sym (noted-own n c r on bytes its))
          (subst (Lead true x (acts ++ record { command = c; reply = r } ∷ [])) (own its).1
          (lead-push x w acts (record { command = c; reply = r }) lead (own its).0))
      | inr not_its ↦
          subst (λ more. Lead true x (acts ++ more) y) (sym (noted-none n c r on bytes not_its))
          (subst (λ more. Lead true x more y) (sym (append-nil acts)) (subst (Lead true x acts) (sym (other not_its)) lead))
    ]

led-noted : {H : Type 0} (tells : Bool) (told : H → Option (List End)) (last : H → ℕ) (x y : PlainObject H)
    (acts : List Act) (n : ℕ) (c : Command) (r : Reply)
    → object_of c ≡ Some n → with_bytes c ≡ c → y.committed ≡ x.committed → y.annals ≡ x.annals
    → (is_objects_own r ≡ true → (reply_in c (working_of x) ≡ r) × (after_in c (working_of x) ≡ working_of y)) →
    (is_objects_own r ≡ false → working_of y ≡ working_of x)
    → IsLed tells told last x acts → IsLed tells told last y (acts ++ noted tells c r)
led-noted tells told last x y acts n c r on bytes committed annals own other led = record {
  lead =
      subst (λ first. Lead tells first (acts ++ noted tells c r) (working_of y)) (sym committed)
      (lead-noted tells x.committed (working_of x) (working_of y) acts n c r on bytes own other led.lead);
  ages = subst (λ h. IfSome (told h) (λ ends. last h ≡ last_stamp_of ends)) (sym annals) led.ages;
}

pub reply_in-length : (n : ℕ) (w : Plain) → reply_in (command.Length n) w ≡ length_in w
unfolding reply_in
reply_in-length n w = refl

pub after_in-length : (n : ℕ) (w : Plain) → after_in (command.Length n) w ≡ w
unfolding after_in
after_in-length n w = refl

pub reply_in-read : (n at len : ℕ) (w : Plain) → reply_in (command.Read n at len) w ≡ read_in at len w
unfolding reply_in
reply_in-read n at len w = refl

pub after_in-read : (n at len : ℕ) (w : Plain) → after_in (command.Read n at len) w ≡ w
unfolding after_in
after_in-read n at len w = refl

pub reply_in-edit : (n : ℕ) (e : Edit) (w : Plain) → reply_in (edit_command n e) w ≡ reply_of (outcome_in e w)
unfolding reply_in
reply_in-edit n (Create t) w = refl
reply_in-edit n Destroy w = refl
reply_in-edit n (Append p) w = refl
reply_in-edit n (Insert at p) w = refl
reply_in-edit n (Delete at len) w = refl
reply_in-edit n (Replace at p) w = refl

pub after_in-edit : (n : ℕ) (e : Edit) (w : Plain) → after_in (edit_command n e) w ≡ edited e w
unfolding after_in
after_in-edit n (Create t) w = refl
after_in-edit n Destroy w = refl
after_in-edit n (Append p) w = refl
after_in-edit n (Insert at p) w = refl
after_in-edit n (Delete at len) w = refl
after_in-edit n (Replace at p) w = refl

pub object_of-edit : (n : ℕ) (e : Edit) → object_of (edit_command n e) ≡ Some n
object_of-edit n (Create t) = refl
object_of-edit n Destroy = refl
object_of-edit n (Append p) = refl
object_of-edit n (Insert at p) = refl
object_of-edit n (Delete at len) = refl
object_of-edit n (Replace at p) = refl

pub with_bytes-edit : (n : ℕ) (e : Edit) → with_bytes (edit_command n e) ≡ edit_command n e
with_bytes-edit n (Create t) = refl
with_bytes-edit n Destroy = refl
with_bytes-edit n (Append p) = refl
with_bytes-edit n (Insert at p) = refl
with_bytes-edit n (Delete at len) = refl
with_bytes-edit n (Replace at p) = refl

pub own-outcome : (outcome : Outcome) → is_objects_own (reply_of outcome) ≡ true
own-outcome Done = refl
own-outcome Exists = refl
own-outcome Missing = refl
own-outcome (Range n) = refl

pub no_memory : (r : Reply) → is_objects_own r ≡ true → r ≡ reply.Memory → ⊥
no_memory r own e = let wrong : is_objects_own reply.Memory ≡ true = subst (λ q. is_objects_own q ≡ true) e own in absurd cc

-- a length that was answered
pub led-length : {H : Type 0} (tells : Bool) (told : H → Option (List End)) (last : H → ℕ) (x : PlainObject H)
    (acts : List Act) (n : ℕ) (answer : Result ℕ TxnFail)
    → ((answer ≡ Err fail.Memory → ⊥) → length_reply answer ≡ length_in (working_of x))
    → IsLed tells told last x acts → IsLed tells told last x (acts ++ noted tells (command.Length n) (length_reply answer))
led-length tells told last x acts n answer right led =
    led-noted tells told last x x acts n (command.Length n) (length_reply answer) refl refl refl refl
    (λ own. (reply_in-length n (working_of x) ∙ sym (right (λ e. no_memory _ own (ap length_reply e))), after_in-length n (working_of x)))
    (λ other. refl) led

-- bytes that were answered
pub led-read : {H : Type 0} (tells : Bool) (told : H → Option (List End)) (last : H → ℕ) (x : PlainObject H)
    (acts : List Act) (n at len : ℕ) (answer : Result (List ℕ) TxnFail)
    → ((answer ≡ Err fail.Memory → ⊥) → bytes_reply answer ≡ read_in at len (working_of x))
    → IsLed tells told last x acts → IsLed tells told last x (acts ++ noted tells (command.Read n at len) (bytes_reply answer))
led-read tells told last x acts n at len answer right led =
    led-noted tells told last x x acts n (command.Read n at len) (bytes_reply answer) refl refl refl refl
    (λ own. (
      reply_in-read n at len (working_of x) ∙ sym (right (λ e. no_memory _ own (ap bytes_reply e))),
      after_in-read n at len (working_of x),
    ))
    (λ other. refl) led

-- an edit that was done
pub led-done : {H : Type 0} (tells : Bool) (told : H → Option (List End)) (last : H → ℕ) (x : PlainObject H)
    (acts : List Act) (n : ℕ) (e : Edit)
    → outcome_in e (working_of x) ≡ Done
    → IsLed tells told last x acts → IsLed tells told last (edited_object e x) (acts ++ noted tells (edit_command n e) reply.Ok)
led-done tells told last x acts n e done led =
    led-noted tells told last x (edited_object e x) acts n (edit_command n e) reply.Ok (object_of-edit n e) (with_bytes-edit n e) refl refl
    (λ own. (reply_in-edit n e (working_of x) ∙ ap reply_of done, after_in-edit n e (working_of x)))
    (λ other. absurd cc) led

-- an edit that was refused
pub led-refused : {H : Type 0} (tells : Bool) (told : H → Option (List End)) (last : H → ℕ) (x : PlainObject H)
    (acts : List Act) (n : ℕ) (e : Edit) (outcome : Outcome)
    → outcome ≡ outcome_in e (working_of x) → (outcome ≡ Done → ⊥)
    → IsLed tells told last x acts → IsLed tells told last x (acts ++ noted tells (edit_command n e) (reply_of outcome))
led-refused tells told last x acts n e outcome is refused led =
    led-noted tells told last x x acts n (edit_command n e) (reply_of outcome) (object_of-edit n e) (with_bytes-edit n e) refl refl
    (λ own. (
      reply_in-edit n e (working_of x) ∙ ap reply_of (sym is),
      after_in-edit n e (working_of x) ∙ edited-refused e (working_of x) (λ done. refused (is ∙ done)),
    ))
    (λ other. let wrong = own-outcome outcome in absurd cc) led

-- What a held object is after an edit, whatever came of it.
pub record Changed {H : Type 0} (tells : Bool) (told : H → Option (List End)) (last : H → ℕ) (h new : Held (PlainObject H)) : Type 0 where
  pub object : PlainObject H
  pub more : List Act
  pub is : new ≡ done_to h object more
  pub committed : object.committed ≡ h.object.committed
  pub annals : object.annals ≡ h.object.annals
  pub led : IsLed tells told last h.object h.acts → IsLed tells told last object (h.acts ++ more)

changed_not : {H : Type 0} (tells : Bool) (told : H → Option (List End)) (last : H → ℕ)
    (h new : Held (PlainObject H)) (e : Edit) (outcome : Outcome)
    → outcome ≡ outcome_in e (working_of h.object) → (outcome ≡ Done → ⊥)
    → ((outcome ≡ Done → ⊥) → new ≡ done_to h h.object (noted tells (edit_command h.number e) (reply_of outcome))) →
    Changed tells told last h new
changed_not tells told last h new e outcome is refused same = record {
  object = h.object;
  more = noted tells (edit_command h.number e) (reply_of outcome);
  is = same refused;
  committed = refl;
  annals = refl;
  led = led-refused tells told last h.object h.acts h.number e outcome is refused;
}

pub changed : {H E : Type 0} (tells : Bool) (told : H → Option (List End)) (last : H → ℕ)
    (h new : Held (PlainObject H)) (e : Edit) (result : Result Outcome E)
    → IfOk result (λ outcome. outcome ≡ outcome_in e (working_of h.object))
    → (result ≡ Ok Done → new ≡ done_to h (edited_object e h.object) (noted tells (edit_command h.number e) reply.Ok))
    → IfOk result (λ outcome. (outcome ≡ Done → ⊥) → new ≡ done_to h h.object (noted tells (edit_command h.number e) (reply_of outcome)))
    → OnErr result (new ≡ h) → Changed tells told last h new
changed tells told last h new e (Err a) outcome done refused err = record {
  object = h.object;
  more = [];
  is = err ∙ ap (λ acts. record { number = h.number; object = h.object; acts = acts }) (sym (append-nil h.acts));
  committed = refl;
  annals = refl;
  led = λ led. subst (IsLed tells told last h.object) (sym (append-nil h.acts)) led;
}
changed tells told last h new e (Ok Done) outcome done refused err = record {
  object = edited_object e h.object;
  more = noted tells (edit_command h.number e) reply.Ok;
  is = done refl;
  committed = refl;
  annals = refl;
  led = led-done tells told last h.object h.acts h.number e (sym outcome);
}
changed tells told last h new e (Ok Exists) outcome done refused err =
    changed_not tells told last h new e Exists outcome (λ wrong. absurd cc) refused
changed tells told last h new e (Ok Missing) outcome done refused err =
    changed_not tells told last h new e Missing outcome (λ wrong. absurd cc) refused
changed tells told last h new e (Ok (Range n)) outcome done refused err =
    changed_not tells told last h new e (Range n) outcome (λ wrong. absurd cc) refused

-- an answer that lacks memory only where acts are kept
pub or_memory : (tells : Bool) (IsMemory P : Type 0) → (IsMemory → IsTrue tells) → ((IsMemory → ⊥) → P) → OrMemory tells IsMemory P
or_memory false IsMemory P kept holds = holds (λ m. let wrong : IsTrue false = kept m in absurd cc)
or_memory true IsMemory P kept holds = holds

-- an object that was just taken: nothing was done to it
pub led-new : {H : Type 0} (tells : Bool) (told : H → Option (List End)) (last : H → ℕ) (x : PlainObject H) → x.working ≡ None
    → IfSome (told x.annals) (λ ends. last x.annals ≡ last_stamp_of ends) → IsLed tells told last x []
led-new false told last x rests ages = record { lead = refl; ages = ages }
led-new true told last x rests ages = record { lead = (tt, ap (λ w. unwrap_or w x.committed) (sym rests)); ages = ages }
