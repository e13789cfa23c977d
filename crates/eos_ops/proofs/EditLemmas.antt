-- A command by the edit that it makes, and an edit that isn't done.
use Rattle.std.proofs.Common.{◌≡◌, ℕ, ◌+◌, Bool, true, false, cond, nat_le, length, Option, Some, None, refl, sym, ap, ◌∙◌}
use Rattle.eos_ops.specs.declared.command.Command.{Command}
use Rattle.eos_ops.specs.declared.command.Command.TheVariants.{Begin, Create, Destroy, Length, Read, Append, Insert}
use Rattle.eos_ops.specs.declared.command.Command.TheVariants.{Delete, Replace, Commit, Abort, Status}
use Rattle.eos_ops.specs.declared.edit.Edit.{Edit}
use Rattle.eos_ops.specs.declared.edit.Edit.TheVariants as edit
use Rattle.eos_ops.specs.declared.outcome.Outcome.{Outcome}
use Rattle.eos_ops.specs.declared.outcome.Outcome.TheVariants.{Done, Exists, Missing, Range}
use Rattle.eos_ops.specs.declared.plain.Plain.{Plain}
use Rattle.eos_ops.specs.declared.plain.Plain.TheVariants.{Absent, Present}
use Rattle.eos_ops.specs.declared.reply.Reply.{Reply}
use Rattle.eos_ops.specs.declared.reply.Reply.TheVariants as reply
use Rattle.eos_ops.specs.Edits.{outcome_in, edited}
use Rattle.eos_ops.specs.Objects.{edit_of, reply_in, after_in, reply_of}
use Rattle.eos_ops.specs.Payloads.{payload_bytes}

-- an edit that isn't done doesn't fit
missed : (fits : Bool) (n : ℕ) → (cond fits Done (Range n) ≡ Done → ⊥) → fits ≡ false
missed true n refused = absurd (refused refl)
missed false n refused = refl

-- an edit that isn't done leaves the object as it is
pub edited-refused : (e : Edit) (x : Plain) → (outcome_in e x ≡ Done → ⊥) → edited e x ≡ x
edited-refused (edit.Create t) Absent refused = absurd (refused refl)
edited-refused edit.Destroy Absent refused = refl
edited-refused (edit.Append p) Absent refused = refl
edited-refused (edit.Insert at p) Absent refused = refl
edited-refused (edit.Delete at n) Absent refused = refl
edited-refused (edit.Replace at p) Absent refused = refl
edited-refused (edit.Create t) (Present x) refused = refl
edited-refused edit.Destroy (Present x) refused = absurd (refused refl)
edited-refused (edit.Append p) (Present x) refused = absurd (refused refl)
edited-refused (edit.Insert at p) (Present x) refused = let past = missed (nat_le at (length x)) (length x) refused in rw past refl
edited-refused (edit.Delete at n) (Present x) refused = let past = missed (nat_le (at + n) (length x)) (length x) refused in rw past refl
edited-refused (edit.Replace at p) (Present x) refused = let past =
    missed (nat_le (at + length p) (length x)) (length x) refused in rw past refl

-- only what is done is answered `ok`
pub done-ok : (o : Outcome) → reply_of o ≡ reply.Ok → o ≡ Done
done-ok Done ok = refl
done-ok Exists ok = absurd (cc)
done-ok Missing ok = absurd (cc)
done-ok (Range n) ok = absurd (cc)

pub after_in-edit : (c : Command) (e : Edit) (x : Plain) → edit_of c ≡ Some e → after_in c x ≡ edited e x
unfolding after_in
after_in-edit Begin e x is = absurd (cc)
after_in-edit (Create o t) e x is = let same : edit.Create t ≡ e = cc in ap (λ (k : Edit). edited k x) same
after_in-edit (Destroy o) e x is = let same : edit.Destroy ≡ e = cc in ap (λ (k : Edit). edited k x) same
after_in-edit (Length o) e x is = absurd (cc)
after_in-edit (Read o at n) e x is = absurd (cc)
after_in-edit (Append o p) e x is = let same : edit.Append (payload_bytes p) ≡ e = cc in ap (λ (k : Edit). edited k x) same
after_in-edit (Insert o at p) e x is = let same : edit.Insert at (payload_bytes p) ≡ e = cc in ap (λ (k : Edit). edited k x) same
after_in-edit (Delete o at n) e x is = let same : edit.Delete at n ≡ e = cc in ap (λ (k : Edit). edited k x) same
after_in-edit (Replace o at p) e x is = let same : edit.Replace at (payload_bytes p) ≡ e = cc in ap (λ (k : Edit). edited k x) same
after_in-edit Commit e x is = absurd (cc)
after_in-edit Abort e x is = absurd (cc)
after_in-edit Status e x is = absurd (cc)

pub reply_in-edit : (c : Command) (e : Edit) (x : Plain) → edit_of c ≡ Some e → reply_in c x ≡ reply_of (outcome_in e x)
unfolding reply_in
reply_in-edit Begin e x is = absurd (cc)
reply_in-edit (Create o t) e x is = let same : edit.Create t ≡ e = cc in ap (λ (k : Edit). reply_of (outcome_in k x)) same
reply_in-edit (Destroy o) e x is = let same : edit.Destroy ≡ e = cc in ap (λ (k : Edit). reply_of (outcome_in k x)) same
reply_in-edit (Length o) e x is = absurd (cc)
reply_in-edit (Read o at n) e x is = absurd (cc)
reply_in-edit (Append o p) e x is = let same : edit.Append (payload_bytes p) ≡ e = cc in ap (λ (k : Edit). reply_of (outcome_in k x)) same
reply_in-edit (Insert o at p) e x is = let same : edit.Insert at (payload_bytes p) ≡ e = cc in
    ap (λ (k : Edit). reply_of (outcome_in k x)) same
reply_in-edit (Delete o at n) e x is = let same : edit.Delete at n ≡ e = cc in ap (λ (k : Edit). reply_of (outcome_in k x)) same
reply_in-edit (Replace o at p) e x is = let same : edit.Replace at (payload_bytes p) ≡ e = cc in
    ap (λ (k : Edit). reply_of (outcome_in k x)) same
reply_in-edit Commit e x is = absurd (cc)
reply_in-edit Abort e x is = absurd (cc)
reply_in-edit Status e x is = absurd (cc)

-- a command that makes no edit leaves the object as it is
pub after_in-look : (c : Command) (x : Plain) → edit_of c ≡ None → after_in c x ≡ x
unfolding after_in
after_in-look Begin x is = refl
after_in-look (Create o t) x is = absurd (cc)
after_in-look (Destroy o) x is = absurd (cc)
after_in-look (Length o) x is = refl
after_in-look (Read o at n) x is = refl
after_in-look (Append o p) x is = absurd (cc)
after_in-look (Insert o at p) x is = absurd (cc)
after_in-look (Delete o at n) x is = absurd (cc)
after_in-look (Replace o at p) x is = absurd (cc)
after_in-look Commit x is = refl
after_in-look Abort x is = refl
after_in-look Status x is = refl

-- a command that isn't answered `ok` leaves the object as it is
pub after_in-refused : (c : Command) (x : Plain) → (reply_in c x ≡ reply.Ok → ⊥) → after_in c x ≡ x
after_in-refused c x refused = by_edit (edit_of c) refl
  where
    by_edit : (t : Option Edit) → edit_of c ≡ t → after_in c x ≡ x
    by_edit None is = after_in-look c x is
    by_edit (Some e) is = after_in-edit c e x is ∙ edited-refused e x (λ done. refused (reply_in-edit c e x is ∙ ap reply_of done))
