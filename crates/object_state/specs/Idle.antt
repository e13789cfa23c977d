-- Edits that remove and bring nothing.
use Rattle.std.specs.Prelude.{◌≡◌, []}
use Rattle.eos_ops.specs.declared.edit.Edit.{Edit}
use Rattle.eos_ops.specs.declared.edit.Edit.TheVariants.{Create, Destroy, Append, Insert, Delete}
use Rattle.eos_ops.specs.declared.edit.Edit.TheVariants.{Replace}

-- whatever the object that is there, the edit leaves its bytes as they are
abbrev pub IsIdle : Edit → Type 0
IsIdle (Create t) = ⊥
IsIdle Destroy = ⊥
IsIdle (Append p) = p ≡ []
IsIdle (Insert at p) = p ≡ []
IsIdle (Delete at n) = n ≡ 0
IsIdle (Replace at p) = p ≡ []
