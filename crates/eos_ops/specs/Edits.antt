-- What becomes of an edit of the plain object, and of the object.
use Rattle.std.specs.Prelude.{◌+◌, ◌<◌, [], ◌++◌, length, nat_le, if◌then◌else◌}
use Rattle.eos_ops.specs.declared.edit.Edit.{Edit}
use Rattle.eos_ops.specs.declared.edit.Edit.TheVariants.{Create, Destroy, Append, Insert, Delete}
use Rattle.eos_ops.specs.declared.edit.Edit.TheVariants.{Replace}
use Rattle.eos_ops.specs.declared.outcome.Outcome.{Outcome}
use Rattle.eos_ops.specs.declared.outcome.Outcome.TheVariants.{Done, Exists, Missing, Range}
use Rattle.eos_ops.specs.declared.plain.Plain.{Plain}
use Rattle.eos_ops.specs.declared.plain.Plain.TheVariants.{Absent, Present}
use Rattle.eos_ops.specs.Splice.{inserted, deleted, replaced}

-- `Exists` where Create meets a present object, `Missing` where another edit meets an absent one,
-- and `Range` with the object's length where the edit reaches past its end
abbrev pub outcome_in : Edit → Plain → Outcome
outcome_in (Create t) Absent = Done
outcome_in Destroy Absent = Missing
outcome_in (Append p) Absent = Missing
outcome_in (Insert at p) Absent = Missing
outcome_in (Delete at n) Absent = Missing
outcome_in (Replace at p) Absent = Missing
outcome_in (Create t) (Present x) = Exists
outcome_in Destroy (Present x) = Done
outcome_in (Append p) (Present x) = Done
outcome_in (Insert at p) (Present x) = if nat_le at (length x) then Done else Range (length x)
outcome_in (Delete at n) (Present x) = if nat_le (at + n) (length x) then Done else Range (length x)
outcome_in (Replace at p) (Present x) =
    if nat_le (at + length p) (length x) then Done else Range (length x)

-- the object after the edit: as before, unless the outcome is `Done`
abbrev pub edited : Edit → Plain → Plain
edited (Create t) Absent = Present []
edited Destroy Absent = Absent
edited (Append p) Absent = Absent
edited (Insert at p) Absent = Absent
edited (Delete at n) Absent = Absent
edited (Replace at p) Absent = Absent
edited (Create t) (Present x) = Present x
edited Destroy (Present x) = Absent
edited (Append p) (Present x) = Present (x ++ p)
edited (Insert at p) (Present x) = Present (if nat_le at (length x) then inserted x at p else x)
edited (Delete at n) (Present x) = Present (if nat_le (at + n)
    (length x) then deleted x at n else x)
edited (Replace at p) (Present x) =
    Present (if nat_le (at + length p) (length x) then replaced x at p else x)

-- the edit puts bytes into the object
abbrev pub PutsBytes : Edit → Plain → Type 0
PutsBytes (Append p) (Present x) = 0 < length p
PutsBytes (Insert at p) (Present x) = 0 < length p
PutsBytes edit object = ⊥
