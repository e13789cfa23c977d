-- How many pages a command moves.
use Rattle.std.proofs.Common.{◌≡◌, ℕ, Bool, false, Some, ap, sym, subst, inl, inr}
use Rattle.std.specs.Prelude.{IsTrue}
use Rattle.eos_ops.specs.declared.command.Command.{Command}
use Rattle.eos_ops.specs.declared.command.Command.TheVariants.{Begin, Create, Destroy, Length, Read, Append, Insert, Delete, Replace}
use Rattle.eos_ops.specs.declared.command.Command.TheVariants.{Commit, Abort, Status}
use Rattle.eos_ops.specs.declared.edit.Edit.{Edit}
use Rattle.eos_ops.specs.declared.edit.Edit.TheVariants as edit
use Rattle.eos_ops.specs.declared.reply.Reply.{Reply}
use Rattle.eos_ops.specs.Payloads.{payload_bytes}
use Rattle.eos_ops.specs.Objects.{object_of}
use Rattle.fault_count.specs.Counts.{Meter}
use Rattle.geometry_model.specs.Numbers.{Numbers}
use Rattle.moment_model.specs.Moment.{ObjectSlot, object_slot}
use Rattle.moment_model.specs.Run.{Lays}
use Rattle.object_body.specs.Calls.{WritesWithin, ReadsWithin}
use Rattle.object_body.specs.Form.{Contents}
use Rattle.store_model.specs.Store.{Store}
use Rattle.std.proofs.lemmas.Option.{same_Some}
use Rattle.body_txn.specs.Replies.{refusal_by_length, IsReplyOrMemory}
use Rattle.body_world.specs.Pages.{WritesBy, MovesPages}
use Rattle.body_world.specs.Served.{Works, MakesEdited, MakesCommand}
use Rattle.body_world.specs.Session.{Shown}
use Rattle.body_world.proofs.Made.{read-cases}

-- a command that moved nothing
pub moves-none : (may_write : Numbers → ObjectSlot → Edit → ObjectSlot → ℕ → Type 0) (may_read : Numbers → ObjectSlot → ℕ → ℕ → Type 0)
    (w w' : Store) (c : Command) (used now : Meter) → now ≡ used → MovesPages may_write may_read w w' c used now
moves-none may_write may_read w w' (Create o t) used now same = inl same
moves-none may_write may_read w w' (Destroy o) used now same = inl same
moves-none may_write may_read w w' (Append o p) used now same = inl same
moves-none may_write may_read w w' (Insert o at p) used now same = inl same
moves-none may_write may_read w w' (Delete o at n) used now same = inl same
moves-none may_write may_read w w' (Replace o at p) used now same = inl same
moves-none may_write may_read w w' (Read o at n) used now same = inl same
moves-none may_write may_read w w' (Length o) used now same = same
moves-none may_write may_read w w' Begin used now same = same
moves-none may_write may_read w w' Commit used now same = same
moves-none may_write may_read w w' Abort used now same = same
moves-none may_write may_read w w' Status used now same = same

-- what a command on an object moved, where the two stores have the object as it was and as it is
pub moves-made : (tells : Bool) (suits : Contents → Type 0) (laid : Lays) (may_refuse : Numbers → ObjectSlot → ℕ → Type 0)
    (may_write : Numbers → ObjectSlot → Edit → ObjectSlot → ℕ → Type 0) (may_read : Numbers → ObjectSlot → ℕ → ℕ → Type 0)
    (start : ℕ) (c : Command) (o : ℕ) (r : Reply) (x y : Shown) (before after : Works) (w w' : Store) → IsTrue tells
    → object_of c ≡ Some o → x.form.numbers ≡ w.numbers → x.told.slot ≡ object_slot w.moment o → y.told.slot ≡ object_slot w'.moment o
    → MakesCommand tells suits laid may_refuse may_write may_read start c r x y before after
    → MovesPages may_write may_read w w' c before.meter after.meter
moves-made tells suits laid may_refuse may_write may_read start c o r x y before after w w' tell on of was now makes = by c on makes
  where
    edited : (p : ℕ) (e : Edit) → Some p ≡ Some o → MakesEdited tells suits laid may_refuse may_write start e r x y before after
        → WritesBy may_write w w' p e before.meter after.meter
    edited p e is made = subst (λ q. WritesBy may_write w w' q e before.meter after.meter) (sym (same_Some p o is)) (elim made [
      | inl none ↦ inl (ap (λ (k : Works). k.meter) none.3)
      | inr call ↦ inr (subst (λ m. WritesWithin (may_write m (object_slot w.moment o) e (object_slot w'.moment o)) before.meter
          after.meter) of
          (subst (λ s. WritesWithin (may_write x.form.numbers s e (object_slot w'.moment o)) before.meter after.meter) was
          (subst (λ s. WritesWithin (may_write x.form.numbers x.told.slot e s) before.meter after.meter) now
          (call.1.body.told tell).writes)))
    ])

    by : (d : Command) → object_of d ≡ Some o
        → MakesCommand tells suits laid may_refuse may_write may_read start d r x y before after
        → MovesPages may_write may_read w w' d before.meter after.meter
    by (Create p t) is made = edited p (edit.Create t) is made
    by (Destroy p) is made = edited p edit.Destroy is made
    by (Append p b) is made = edited p (edit.Append (payload_bytes b)) is made
    by (Insert p at b) is made = edited p (edit.Insert at (payload_bytes b)) is made
    by (Delete p at n) is made = edited p (edit.Delete at n) is made
    by (Replace p at b) is made = edited p (edit.Replace at (payload_bytes b)) is made
    by (Read p at n) is made =
        elim (read-cases (refusal_by_length at n x.form.working)
        (λ refusal. IsReplyOrMemory false r refusal × (y.form ≡ x.form) × (y.told ≡ x.told) × (after.meter ≡ before.meter)) made.2) [
          | inl look ↦ inr (subst (λ q. ReadsWithin (may_read w.numbers (object_slot w.moment q) n) before.meter after.meter)
              (sym (same_Some p o is))
              (subst (λ m. ReadsWithin (may_read m (object_slot w.moment o) n) before.meter after.meter) of
              (subst (λ s. ReadsWithin (may_read x.form.numbers s n) before.meter after.meter) was (look.body.reads tell))))
          | inr refused ↦ inl refused.2.3
        ]
    by (Length p) is made = ap (λ (k : Works). k.meter) made.2
    by Begin is made = absurd made
    by Commit is made = absurd made
    by Abort is made = absurd made
    by Status is made = absurd made
