-- Small neighbours are merged: while two neighbours both have fewer pages than the threshold, the
-- leftmost such two become one new part.
use Rattle.std.specs.Prelude.{ℕ, ◌+◌, ◌≤◌, Bool, true, false, ◌&&◌, List, [], ◌∷◌, nat_lt, ◌⊎◌}
use Rattle.tree_model.specs.declared.entry.Pair.{Pair}
use Rattle.tree_model.specs.Tree.{page_count}
use Rattle.layout_model.specs.declared.part.Part.{Part}
use Rattle.layout_model.specs.declared.part.Part.TheVariants.{Make}
use Rattle.layout_model.specs.Parts.{part_bytes}

-- does a part have fewer than `least` pages?
abbrev pub is_small : ℕ → ℕ → Part → Bool
is_small size least part = nat_lt (page_count size (part_bytes part)) least

-- the parts from one in hand on, merged. Left of it nothing is left to merge: where it is small,
-- what stands before it isn't
abbrev pub pack_from : ℕ → ℕ → Part → List Part → List Part
pack_from size least part [] = part ∷ []
pack_from size least part (next ∷ rest) =
    elim (is_small size least part && is_small size least next) [
      | true ↦ pack_from size least (Make (part_bytes part + part_bytes next)) rest
      | false ↦ part ∷ pack_from size least next rest
    ]

-- the parts after all merging
abbrev pub pack : ℕ → ℕ → List Part → List Part
pack size least [] = []
pack size least (part ∷ rest) = pack_from size least part rest

-- of two neighbouring entries at least one has `least` pages or more
abbrev pub Packed : ℕ → ℕ → List Pair → Type 0
Packed size least [] = Unit {0}
Packed size least (p ∷ []) = Unit {0}
Packed size least (p ∷ q ∷ rest) =
    ((least ≤ page_count size p.bytes) ⊎ (least ≤ page_count size q.bytes))
    × Packed size least (q ∷ rest)
