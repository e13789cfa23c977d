-- A held object's answer: what a transaction says of it is what the command makes of it.
use Rattle.std.proofs.Common.{◌≡◌, ℕ, Bool, false, [], Some, IsSome, refl, ap, sym, ◌∙◌, subst, inl, inr}
use Rattle.std.specs.Prelude.{IsTrue, IfSome}
use Rattle.std.specs.Option.{option_map_or}
use Rattle.std.proofs.lemmas.Bool.{false≢true}
use Rattle.std.proofs.lemmas.Option.{same_Some}
use Rattle.base_laws.proofs.OptionLaws.{some-if}
use Rattle.eos_ops.specs.declared.command.Command.{Command}
use Rattle.eos_ops.specs.declared.command.Command.TheVariants.{Begin, Create, Destroy, Length, Read, Append, Insert, Delete, Replace}
use Rattle.eos_ops.specs.declared.command.Command.TheVariants.{Commit, Abort, Status}
use Rattle.eos_ops.specs.declared.edit.Edit.{Edit}
use Rattle.eos_ops.specs.declared.plain.Plain.{Plain}
use Rattle.eos_ops.specs.declared.plain.Plain.TheVariants.{Absent}
use Rattle.eos_ops.specs.declared.reply.Reply.{Reply}
use Rattle.eos_ops.specs.declared.reply.Reply.TheVariants as reply
use Rattle.eos_ops.specs.Edits.{outcome_in}
use Rattle.eos_ops.specs.Objects.{edit_of, reply_of, reply_in, length_in, read_in}
use Rattle.fault_count.specs.Counts.{Meter}
use Rattle.geometry_model.specs.Numbers.{Numbers}
use Rattle.moment_model.specs.Moment.{ObjectSlot}
use Rattle.moment_model.specs.Run.{Lays}
use Rattle.object_body.specs.declared.object.Object.{Object}
use Rattle.object_body.specs.Form.{Form, Contents, AreTied}
use Rattle.shadow_txn.specs.Held.{held_object}
use Rattle.shadow_txn.specs.Transaction.{Transaction, holding}
use Rattle.world.proofs.HeldLists.{with_object-same}
use Rattle.body_txn.specs.Calls.{IsCallOn, MakesEdit, MakesRead}
use Rattle.body_txn.specs.Ending.{Standing, staged}
use Rattle.body_txn.specs.Fields.{at_body}
use Rattle.body_txn.specs.Replies.{IsOwnRight, IsReplyOrMemory, reply_by_length, working_at}
use Rattle.body_world.specs.Served.{Works, MakesEdited, MakesCommand, IsWorked}
use Rattle.body_world.specs.Session.{Shown, shown_by}

-- the edit of a command is what the command makes
pub edit-command : (tells : Bool) (suits : Contents → Type 0) (laid : Lays) (may_refuse : Numbers → ObjectSlot → ℕ → Type 0)
    (may_write : Numbers → ObjectSlot → Edit → ObjectSlot → ℕ → Type 0) (may_read : Numbers → ObjectSlot → ℕ → ℕ → Type 0)
    (start : ℕ) (c : Command) (e : Edit) (r : Reply) (x y : Shown) (before after : Works) → edit_of c ≡ Some e
    → MakesEdited tells suits laid may_refuse may_write start e r x y before after
    → MakesCommand tells suits laid may_refuse may_write may_read start c r x y before after
edit-command tells suits laid may_refuse may_write may_read start c e r x y before after is made = by c is
  where
    Made : Edit → Type 0
    Made f = MakesEdited tells suits laid may_refuse may_write start f r x y before after

    by : (d : Command) → edit_of d ≡ Some e → MakesCommand tells suits laid may_refuse may_write may_read start d r x y before after
    by (Create o t) is = subst Made (sym (same_Some _ e is)) made
    by (Destroy o) is = subst Made (sym (same_Some _ e is)) made
    by (Append o p) is = subst Made (sym (same_Some _ e is)) made
    by (Insert o at p) is = subst Made (sym (same_Some _ e is)) made
    by (Delete o at n) is = subst Made (sym (same_Some _ e is)) made
    by (Replace o at p) is = subst Made (sym (same_Some _ e is)) made
    by (Length o) is = absurd cc
    by (Read o at n) is = absurd cc
    by Begin is = absurd cc
    by Commit is = absurd cc
    by Abort is = absurd cc
    by Status is = absurd cc

-- and the reply to it is that of its outcome
pub reply-command : (c : Command) (e : Edit) (x : Plain) → edit_of c ≡ Some e → reply_of (outcome_in e x) ≡ reply_in c x
unfolding reply_in
reply-command (Create o t) e x is = ap (λ f. reply_of (outcome_in f x)) (sym (same_Some _ e is))
reply-command (Destroy o) e x is = ap (λ f. reply_of (outcome_in f x)) (sym (same_Some _ e is))
reply-command (Append o p) e x is = ap (λ f. reply_of (outcome_in f x)) (sym (same_Some _ e is))
reply-command (Insert o at p) e x is = ap (λ f. reply_of (outcome_in f x)) (sym (same_Some _ e is))
reply-command (Delete o at n) e x is = ap (λ f. reply_of (outcome_in f x)) (sym (same_Some _ e is))
reply-command (Replace o at p) e x is = ap (λ f. reply_of (outcome_in f x)) (sym (same_Some _ e is))
reply-command (Length o) e x is = absurd cc
reply-command (Read o at n) e x is = absurd cc
reply-command Begin e x is = absurd cc
reply-command Commit e x is = absurd cc
reply-command Abort e x is = absurd cc
reply-command Status e x is = absurd cc

-- an object to which nothing was done
pub worked-none : {T : Type 0} (tells : Bool) (suits : Contents → Type 0) (show : T → Shown) (Makes : Shown → Shown → Type 0) (c : Command)
    (o : ℕ) (r : Reply) (txn : Transaction T) → IsSome (held_object o txn.held) → ((x : Shown) → Makes x x)
    → r ≡ reply.Memory → IsWorked tells suits show Makes c o r txn txn
worked-none tells suits show Makes c o r txn held makes memory =
    let some = some-if (held_object o txn.held) held in
    record {
      was = some.0;
      now = some.0;
      held = some.1;
      makes = makes (show some.0);
      fits = record {
        tied = λ tell. inl memory;
        right = λ tell. subst (λ t. IsOwnRight t (reply_in c (show some.0).told.working)) (sym memory) (λ own. absurd (false≢true own));
      };
      txn = sym (ap (holding txn) (with_object-same o some.0 txn.held some.1));
    }

-- a transaction's record of an edit is what the command makes
pub worked-edit : {B : Type 0} (tells : Bool) (suits : Contents → Type 0) (laid : Lays) (may_refuse : Numbers → ObjectSlot → ℕ → Type 0)
    (may_write : Numbers → ObjectSlot → Edit → ObjectSlot → ℕ → Type 0) (may_read : Numbers → ObjectSlot → ℕ → ℕ → Type 0)
    (start : ℕ) (form : B → Form) (told : B → Contents) (c : Command) (e : Edit) (said r : Reply) (o : ℕ)
    (old new : Transaction (Object B ℕ)) (before after : Works) → edit_of c ≡ Some e → r ≡ said
    → IsCallOn o (λ (x y : Object B ℕ). (y.annals ≡ x.annals) × MakesEdit tells suits laid may_refuse may_write start e said
    (staged (form x.body) (told x.body) before.spaces) (staged (form y.body)
    (told y.body) after.spaces) before.meter after.meter) [] old new
    → (IsTrue tells → IsOwnRight said (reply_of (outcome_in e (working_at (at_body told) o old.held))))
    → (IsTrue tells → IfSome (held_object o old.held) (λ (x : Object B ℕ). AreTied suits (form x.body) (told x.body)))
    → IsWorked tells suits (shown_by form told)
    (λ x y. MakesCommand tells suits laid may_refuse may_write may_read start c r x y before after) c o r old new
worked-edit {B} tells suits laid may_refuse may_write may_read start form told c e said r o old new before after is same call right tied =
    record {
      was = call.was;
      now = call.now;
      held = call.found;
      makes = edit-command tells suits laid may_refuse may_write may_read start c e r (shown_by form told call.was)
          (shown_by form told call.now)
          before after is (inr (
            call.made.0,
            subst (λ t. MakesEdit tells suits laid may_refuse may_write start e t
                (staged (form call.was.body) (told call.was.body) before.spaces) (staged (form call.now.body)
                (told call.now.body) after.spaces)
                before.meter after.meter) (sym same) call.made.1,
          ));
      fits = record {
        tied = λ tell. inr (subst (λ found. IfSome found (λ (x : Object B ℕ). AreTied suits (form x.body) (told x.body))) call.found
            (tied tell));
        right = λ tell. subst (λ t. IsOwnRight t (reply_in c (told call.was.body).working)) (sym same)
            (subst (IsOwnRight said) (reply-command c e (told call.was.body).working is)
            (subst (λ found. IsOwnRight said (reply_of (outcome_in e (option_map_or (λ (x : Object B ℕ).
            (told x.body).working) found Absent))))
            call.found (right tell)));
      };
      txn = call.held;
    }

length-command : (p : ℕ) (x : Plain) → length_in x ≡ reply_in (Length p) x
unfolding reply_in
length-command p x = refl

read-command : (p at n : ℕ) (x : Plain) → read_in at n x ≡ reply_in (Read p at n) x
unfolding reply_in
read-command p at n x = refl

-- a look at the length
pub worked-length : {B : Type 0} (tells : Bool) (suits : Contents → Type 0) (laid : Lays) (may_refuse : Numbers → ObjectSlot → ℕ → Type 0)
    (may_write : Numbers → ObjectSlot → Edit → ObjectSlot → ℕ → Type 0) (may_read : Numbers → ObjectSlot → ℕ → ℕ → Type 0)
    (start : ℕ) (form : B → Form) (told : B → Contents) (c : Command) (p : ℕ) (said r : Reply) (o : ℕ)
    (old new : Transaction (Object B ℕ)) (works : Works) → c ≡ Length p → r ≡ said → IsSome (held_object o old.held)
    → IfSome (held_object o old.held) (λ (x : Object B ℕ). IsReplyOrMemory false said (reply_by_length (form x.body).working))
    → (IsTrue tells → IsOwnRight said (length_in (working_at (at_body told) o old.held)))
    → (IsTrue tells → IfSome (held_object o old.held) (λ (x : Object B ℕ). AreTied suits (form x.body) (told x.body)))
    → new ≡ old
    → IsWorked tells suits (shown_by form told)
    (λ x y. MakesCommand tells suits laid may_refuse may_write may_read start c r x y works works) c o r old new
worked-length {B} tells suits laid may_refuse may_write may_read start form told c p said r o old new works is same held length right
    tied still =
    let some = some-if (held_object o old.held) held in
    let x : Object B ℕ = some.0 in
    let answer : IsReplyOrMemory false said (reply_by_length (form x.body).working) =
    subst (λ found. IfSome found (λ (y : Object B ℕ). IsReplyOrMemory false said (reply_by_length (form y.body).working))) some.1 length in
    subst (λ d. IsWorked tells suits (shown_by form told)
    (λ x y. MakesCommand tells suits laid may_refuse may_write may_read start d r x y works works) d o r old new) (sym is)
    (record {
      was = x;
      now = x;
      held = some.1;
      makes = (same ∙ only_reply said (reply_by_length (form x.body).working) answer, refl, refl);
      fits = record {
        tied = λ tell. inr (subst (λ found. IfSome found (λ (y : Object B ℕ). AreTied suits (form y.body) (told y.body))) some.1
            (tied tell));
        right = λ tell. subst (λ t. IsOwnRight t (reply_in (Length p) (told x.body).working)) (sym same)
            (subst (IsOwnRight said) (length-command p (told x.body).working)
            (subst (λ found. IsOwnRight said (length_in (option_map_or (λ (y : Object B ℕ). (told y.body).working) found Absent)))
            some.1 (right tell)));
      };
      txn = still ∙ sym (ap (holding old) (with_object-same o x old.held some.1));
    })
  where
    only_reply : (got due : Reply) → IsReplyOrMemory false got due → got ≡ due
    only_reply got due answer = elim answer [ inl so ↦ so | inr none ↦ absurd (false≢true none.0) ]

-- a read
pub worked-read : {B : Type 0} (tells : Bool) (suits : Contents → Type 0) (laid : Lays) (may_refuse : Numbers → ObjectSlot → ℕ → Type 0)
    (may_write : Numbers → ObjectSlot → Edit → ObjectSlot → ℕ → Type 0) (may_read : Numbers → ObjectSlot → ℕ → ℕ → Type 0)
    (start : ℕ) (form : B → Form) (told : B → Contents) (c : Command) (p at n : ℕ) (said r : Reply) (o : ℕ)
    (old new : Transaction (Object B ℕ)) (spaces : Standing) (used now : Meter) → c ≡ Read p at n → r ≡ said
    → IsCallOn o (λ (x y : Object B ℕ). (y.annals ≡ x.annals) × MakesRead tells suits may_read false at n said
    (form x.body) (form y.body) (told x.body) (told y.body) used now) [] old new
    → (IsTrue tells → IsOwnRight said (read_in at n (working_at (at_body told) o old.held)))
    → (IsTrue tells → IfSome (held_object o old.held) (λ (x : Object B ℕ). AreTied suits (form x.body) (told x.body)))
    → IsWorked tells suits (shown_by form told)
    (λ x y. MakesCommand tells suits laid may_refuse may_write may_read start c r x y (record { spaces = spaces; meter = used })
    (record { spaces = spaces; meter = now })) c o r old new
worked-read {B} tells suits laid may_refuse may_write may_read start form told c p at n said r o old new spaces used now is same call
    right tied =
    subst (λ d. IsWorked tells suits (shown_by form told)
    (λ x y. MakesCommand tells suits laid may_refuse may_write may_read start d r x y (record { spaces = spaces; meter = used })
    (record { spaces = spaces; meter = now })) d o r old new) (sym is)
    (record {
      was = call.was;
      now = call.now;
      held = call.found;
      makes = (
        call.made.0,
        refl,
        subst (λ t. MakesRead tells suits may_read false at n t (form call.was.body) (form call.now.body) (told call.was.body)
            (told call.now.body) used now) (sym same) call.made.1,
      );
      fits = record {
        tied = λ tell. inr (subst (λ found. IfSome found (λ (y : Object B ℕ). AreTied suits (form y.body) (told y.body))) call.found
            (tied tell));
        right = λ tell. subst (λ t. IsOwnRight t (reply_in (Read p at n) (told call.was.body).working)) (sym same)
            (subst (IsOwnRight said) (read-command p at n (told call.was.body).working)
            (subst (λ found. IsOwnRight said (read_in at n (option_map_or (λ (y : Object B ℕ). (told y.body).working) found Absent)))
            call.found (right tell)));
      };
      txn = call.held;
    })
