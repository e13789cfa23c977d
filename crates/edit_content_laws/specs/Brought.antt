-- The bytes that an edit brings.
use Rattle.std.specs.Prelude.{ℕ, List, []}
use Rattle.eos_ops.specs.declared.edit.Edit.{Edit}
use Rattle.eos_ops.specs.declared.edit.Edit.TheVariants.{Create, Destroy, Append, Insert, Delete}
use Rattle.eos_ops.specs.declared.edit.Edit.TheVariants.{Replace}

-- the bytes that an edit puts into the object, none where it puts none
abbrev pub brought : Edit → List ℕ
brought (Create threshold) = []
brought Destroy = []
brought (Append bytes) = bytes
brought (Insert at bytes) = bytes
brought (Delete at count) = []
brought (Replace at bytes) = bytes
