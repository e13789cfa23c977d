-- What a kind of body keeps of an object's length.
use Rattle.std.specs.Prelude.{◌≡◌, ℕ}
use Rattle.geometry_model.specs.Numbers.{Numbers, IsInRange}
use Rattle.eos_ops.specs.declared.edit.Edit.{Edit}
use Rattle.layout_model.specs.Grants.{Spaces}
use Rattle.layout_model.specs.Layout.{Tree}
use Rattle.moment_model.specs.Version.{IsGoodVersion, version_bytes}
use Rattle.moment_model.specs.Moment.{ObjectSlot}
use Rattle.moment_model.specs.Edit.{edited_length}
use Rattle.moment_model.specs.Run.{Lays}
use Rattle.moment_laws.specs.Granting.{AreSpaces}
use Rattle.soundness_laws.specs.Keeping.{got_slot}
use Rattle.change_laws.specs.Tail.{IsTail}

-- An edit that was granted what it asks for leaves the committed version, and a working version
-- of the length that the edit makes of the length before it.
abbrev pub KeepsLength : Lays → (Numbers → Tree → Type 0) → Type 0
KeepsLength laid good =
    (n : Numbers) (start : ℕ) (free left : Spaces) (slot after : ObjectSlot) (edit : Edit) →
    IsInRange n → IsGoodVersion good n slot.working → IsTail n slot.working slot.spare →
    AreSpaces n free →
    laid n start free slot edit ≡ got_slot after left →
    (after.committed ≡ slot.committed)
    × (version_bytes after.working ≡ edited_length edit (version_bytes slot.working))
