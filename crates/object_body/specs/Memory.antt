-- Which edits may be refused for want of memory.
use Rattle.eos_ops.specs.declared.edit.Edit.{Edit}
use Rattle.eos_ops.specs.declared.edit.Edit.TheVariants.{Create, Destroy, Append, Insert, Delete}
use Rattle.eos_ops.specs.declared.edit.Edit.TheVariants.{Replace}

-- Whatever the object, an edit takes memory only if it isn't a `create`: as `MayTakeMemory` says of
-- the commands that make it.
abbrev pub EditMayTakeMemory : Edit → Type 0
EditMayTakeMemory (Create t) = ⊥
EditMayTakeMemory Destroy = Unit {0}
EditMayTakeMemory (Append p) = Unit {0}
EditMayTakeMemory (Insert at p) = Unit {0}
EditMayTakeMemory (Delete at n) = Unit {0}
EditMayTakeMemory (Replace at p) = Unit {0}
