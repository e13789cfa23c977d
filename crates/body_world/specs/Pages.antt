-- How many pages a command may move, where bytes are told.
use Rattle.std.specs.Prelude.{◌≡◌, ◌⊎◌, ℕ}
use Rattle.eos_ops.specs.declared.command.Command.{Command}
use Rattle.eos_ops.specs.declared.command.Command.TheVariants.{Begin, Create, Destroy, Length, Read}
use Rattle.eos_ops.specs.declared.command.Command.TheVariants.{Append, Insert, Delete, Replace}
use Rattle.eos_ops.specs.declared.command.Command.TheVariants.{Commit, Abort, Status}
use Rattle.eos_ops.specs.declared.edit.Edit.{Edit}
use Rattle.eos_ops.specs.declared.edit.Edit.TheVariants as edit
use Rattle.eos_ops.specs.Payloads.{payload_bytes}
use Rattle.fault_count.specs.Counts.{HasCause, IsUsed, Meter}
use Rattle.geometry_model.specs.Numbers.{Numbers}
use Rattle.moment_model.specs.Moment.{ObjectSlot, object_slot}
use Rattle.object_body.specs.Calls.{WritesWithin, ReadsWithin}
use Rattle.store_model.specs.Store.{Store}

-- a port was used: no count falls, and a failure comes only where that of faults rose
pub record UsesPort (used now : Meter) (failure : Type 0) : Type 0 where
  pub counts : IsUsed used now
  pub cause : HasCause used.faults now.faults failure

-- An edit of object o moved no page; or it wrote no more than its kind allows, from the slot that
-- the moment had to the one that it has.
abbrev pub WritesBy : (Numbers → ObjectSlot → Edit → ObjectSlot → ℕ → Type 0) → Store → Store → ℕ
    → Edit → Meter → Meter → Type 0
WritesBy may_write w w' o e used now =
    (now ≡ used)
    ⊎ WritesWithin (may_write w.numbers (object_slot w.moment o) e
    (object_slot w'.moment o)) used now

-- What a command may move: an edit writes so many pages, a read of n bytes reads so many and
-- writes none, and no other command moves a page.
abbrev pub MovesPages : (Numbers → ObjectSlot → Edit → ObjectSlot → ℕ → Type 0)
    → (Numbers → ObjectSlot → ℕ → ℕ → Type 0) → Store → Store → Command → Meter → Meter → Type 0
MovesPages may_write may_read w w' (Create o t) used now =
    WritesBy may_write w w' o (edit.Create t) used now
MovesPages may_write may_read w w' (Destroy o) used now =
    WritesBy may_write w w' o edit.Destroy used now
MovesPages may_write may_read w w' (Append o p) used now =
    WritesBy may_write w w' o (edit.Append (payload_bytes p)) used now
MovesPages may_write may_read w w' (Insert o at p) used now =
    WritesBy may_write w w' o (edit.Insert at (payload_bytes p)) used now
MovesPages may_write may_read w w' (Delete o at n) used now =
    WritesBy may_write w w' o (edit.Delete at n) used now
MovesPages may_write may_read w w' (Replace o at p) used now =
    WritesBy may_write w w' o (edit.Replace at (payload_bytes p)) used now
MovesPages may_write may_read w w' (Read o at n) used now =
    (now ≡ used) ⊎ ReadsWithin (may_read w.numbers (object_slot w.moment o) n) used now
MovesPages may_write may_read w w' (Length o) used now = now ≡ used
MovesPages may_write may_read w w' Begin used now = now ≡ used
MovesPages may_write may_read w w' Commit used now = now ≡ used
MovesPages may_write may_read w w' Abort used now = now ≡ used
MovesPages may_write may_read w w' Status used now = now ≡ used
