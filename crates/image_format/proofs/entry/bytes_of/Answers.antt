-- The bytes of an entry, absent or present.
use Rattle.std.proofs.Common.{refl, ap, ◌∙◌, ℕ, ◌∷◌, ◌++◌}
use Rattle.std.specs.Int.{w16, w32, w64, to_be_bytes}
use Rattle.image_model.specs.Catalog.{entry_bytes}
use Rattle.image_format.proofs.entry.bytes_of.Goals as goal

pub returns-in-Absent-clause-bytes : goal.returns-in-Absent-clause-bytes
unfolding entry_bytes
returns-in-Absent-clause-bytes c = rw c.in-Absent.is refl

pub returns-in-Present-clause-bytes : goal.returns-in-Present-clause-bytes
unfolding entry_bytes
returns-in-Present-clause-bytes c =
    rw c.in-Present.is (c.present_bytes.ensures.bytes
    ∙ ap (λ (t : ℕ). 1 ∷ c.in-Present.height
    ∷ (to_be_bytes w16 t ++ (to_be_bytes w32 c.in-Present.root ++ to_be_bytes w64 c.in-Present.length)))
    c.kept_threshold.ensures.kept)
