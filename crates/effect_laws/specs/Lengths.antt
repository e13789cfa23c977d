-- The length of a plain object, as that of a version is said.
use Rattle.std.specs.Prelude.{ℕ, Option, Some, None, length}
use Rattle.eos_ops.specs.declared.plain.Plain.{Plain}
use Rattle.eos_ops.specs.declared.plain.Plain.TheVariants.{Absent, Present}

-- the number of its bytes, none where it is absent
abbrev pub plain_length : Plain → Option ℕ
plain_length Absent = None
plain_length (Present bytes) = Some (length bytes)
