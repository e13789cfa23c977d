-- Worked edits of an object of five bytes in two segments, 256 bytes a page.
use Rattle.std.proofs.Common.{◌≡◌, ℕ, false, refl, Some, [], ◌∷◌}
use Rattle.geometry_model.specs.Numbers.{Numbers}
use Rattle.eos_ops.specs.declared.edit.Edit.TheVariants.{Delete, Replace}
use Rattle.layout_model.specs.Layout.{Tree}
use Rattle.moment_model.specs.Edit.{effect_on, Changes, change_at}

abbrev small : Numbers
small = record { page = 256; order = 4; spaces = 1; catalog = 1; threshold = 2 }

abbrev five : Tree
five = record {
  levels = (record { page = 9; pairs = record { bytes = 3; page = 3 } ∷ record { bytes = 2; page = 5 } ∷ [] } ∷ []) ∷ [];
  threshold = 2;
}

-- a delete removes and brings nothing, and a replace removes as many bytes as it brings
delete_removes : effect_on small (Delete 1 3) (Some five) ≡ Changes five (change_at 1 3 0 false)
delete_removes = refl

replace_does_both : effect_on small (Replace 2 (7 ∷ 8 ∷ [])) (Some five) ≡ Changes five (change_at 2 2 2 false)
replace_does_both = refl
