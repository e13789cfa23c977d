-- Where a pass over parts has come: the parts behind it, of which the last may still be merged.
use Rattle.std.specs.Prelude.{ℕ, List, [], ◌∷◌}
use Rattle.layout_model.specs.declared.part.Part.{Part}
use Rattle.layout_model.specs.Pack.{pack, pack_from}

-- what becomes of the parts behind, and of these others in front
abbrev pub then_packed : ℕ → ℕ → List Part → List Part → List Part
then_packed size least [] rest = pack size least rest
then_packed size least (part ∷ []) rest = pack_from size least part rest
then_packed size least (part ∷ next ∷ others) rest =
    part ∷ then_packed size least (next ∷ others) rest
