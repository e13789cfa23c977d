-- The bytes of parts are those of their pieces.
use Rattle.std.proofs.Common.{◌≡◌, ℕ, ◌+◌, [], ◌++◌, refl, arith}
use Rattle.std.proofs.lemmas.List.Sums.{sum_by-append, sum_by-cons}
use Rattle.layout_model.specs.Parts.{part_bytes}
use Rattle.edit_parts.specs.declared.part.Part.{Part}
use Rattle.edit_parts.specs.declared.part.Part.TheVariants.{Keep, Make}
use Rattle.edit_parts.specs.Parts.{layout_part, pieces_in}
use Rattle.edit_parts.specs.Pieces.{piece_bytes, pieces_bytes, whole_piece}

-- a part has the bytes of its pieces
pub pieces-part : (part : Part) → pieces_bytes (pieces_in part) ≡ part_bytes (layout_part part)
pieces-part (Keep pair) = let one = sum_by-cons piece_bytes (whole_piece pair) [] in omega (arith, one)
pieces-part (Make pieces) = refl

-- and two those of both
pub pieces-both : (part next : Part) → pieces_bytes (pieces_in part ++ pieces_in next)
    ≡ part_bytes (layout_part part) + part_bytes (layout_part next)
pieces-both part next =
    let sum = sum_by-append piece_bytes (pieces_in part) (pieces_in next) in
    let one = pieces-part part in
    let two = pieces-part next in
    omega (arith, sum, one, two)
