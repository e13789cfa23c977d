-- What is said of a list of parts: their bytes, and that no two small ones stand beside each other.
use Rattle.std.specs.Prelude.{◌≡◌, ℕ, ◌+◌, false, ◌&&◌, List, [], ◌∷◌}
use Rattle.layout_model.specs.declared.part.Part.{Part}
use Rattle.layout_model.specs.Parts.{part_bytes}
use Rattle.layout_model.specs.Pack.{is_small}

-- the bytes of all parts
abbrev pub parts_bytes : List Part → ℕ
parts_bytes [] = 0
parts_bytes (part ∷ rest) = part_bytes part + parts_bytes rest

-- no two neighbouring parts are both small
abbrev pub AreApart : ℕ → ℕ → List Part → Type 0
AreApart size least [] = Unit {0}
AreApart size least (part ∷ []) = Unit {0}
AreApart size least (part ∷ next ∷ rest) =
    ((is_small size least part && is_small size least next) ≡ false)
    × AreApart size least (next ∷ rest)
