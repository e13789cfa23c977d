-- Worked edits of an object of five bytes, 256 bytes a page, two pages of segment.
use Rattle.std.proofs.Common.{◌≡◌, ℕ, true, false, refl, Some, None, [], ◌∷◌}
use Rattle.geometry_model.specs.Numbers.{Numbers}
use Rattle.eos_ops.specs.declared.edit.Edit.TheVariants.{Create, Destroy, Append, Insert, Delete, Replace}
use Rattle.eos_ops.specs.declared.outcome.Outcome.TheVariants.{Done, Range}
use Rattle.eos_ops.specs.declared.plain.Plain.{Plain}
use Rattle.eos_ops.specs.declared.plain.Plain.TheVariants.{Absent, Present}
use Rattle.eos_ops.specs.Edits.{outcome_in, edited}
use Rattle.layout_model.specs.Layout.{Tree}
use Rattle.moment_model.specs.Edit.{accepts, edited_length, effect_on, is_effective, Changes}
use Rattle.moment_model.specs.Version.{Version, version_bytes}
use Rattle.effect_laws.specs.Lengths.{plain_length}

abbrev small : Numbers
small = record { page = 256; order = 4; spaces = 1; catalog = 1; threshold = 2 }

-- five bytes in two segments
abbrev five : Tree
five = record {
  levels = (record { page = 9; pairs = record { bytes = 3; page = 3 } ∷ record { bytes = 2; page = 5 } ∷ [] } ∷ []) ∷ [];
  threshold = 2;
}

abbrev word : Plain
word = Present (104 ∷ 101 ∷ 108 ∷ 108 ∷ 111 ∷ [])

same_length : version_bytes (Some five) ≡ plain_length word
same_length = refl

-- a delete up to the end, and one a byte past it
to_the_end : is_effective (effect_on small (Delete 2 3) (Some five)) ≡ true
to_the_end = refl

past_the_end : is_effective (effect_on small (Delete 2 4) (Some five)) ≡ false
past_the_end = refl

past_is_range : outcome_in (Delete 2 4) word ≡ Range 5
past_is_range = refl

-- the lengths after an insert in the middle and after one past the end
inserted_length : edited_length (Insert 3 (1 ∷ 2 ∷ [])) (Some 5) ≡ plain_length (edited (Insert 3 (1 ∷ 2 ∷ [])) word)
inserted_length = refl

refused_length : edited_length (Insert 6 (1 ∷ [])) (Some 5) ≡ Some 5
refused_length = refl
