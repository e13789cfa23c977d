-- What an edit is to an object of which the length alone is known.
use Rattle.std.specs.Prelude.{ℕ, ◌+◌, length, nat_le, if◌then◌else◌, Option, Some, None}
use Rattle.eos_ops.specs.declared.edit.Edit.{Edit}
use Rattle.eos_ops.specs.declared.edit.Edit.TheVariants.{Create, Destroy, Append, Insert, Delete}
use Rattle.eos_ops.specs.declared.edit.Edit.TheVariants.{Replace}
use Rattle.eos_ops.specs.declared.outcome.Outcome.{Outcome}
use Rattle.eos_ops.specs.declared.outcome.Outcome.TheVariants.{Done, Exists, Missing, Range}
use Rattle.eos_ops.specs.declared.plain.Plain.{Plain}
use Rattle.eos_ops.specs.declared.plain.Plain.TheVariants.{Absent, Present}

-- the length of an object, none where it is absent
abbrev pub length_of : Plain → Option ℕ
length_of Absent = None
length_of (Present x) = Some (length x)

-- the bytes up to `end` are there, or the edit reaches past the last one
abbrev pub outcome_within : ℕ → ℕ → Outcome
outcome_within end len = if nat_le end len then Done else Range len

-- what becomes of an edit of an object of this length
abbrev pub outcome_of : Edit → Option ℕ → Outcome
outcome_of (Create t) None = Done
outcome_of Destroy None = Missing
outcome_of (Append p) None = Missing
outcome_of (Insert at p) None = Missing
outcome_of (Delete at n) None = Missing
outcome_of (Replace at p) None = Missing
outcome_of (Create t) (Some len) = Exists
outcome_of Destroy (Some len) = Done
outcome_of (Append p) (Some len) = Done
outcome_of (Insert at p) (Some len) = outcome_within at len
outcome_of (Delete at n) (Some len) = outcome_within (at + n) len
outcome_of (Replace at p) (Some len) = outcome_within (at + length p) len
