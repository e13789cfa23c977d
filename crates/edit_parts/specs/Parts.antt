-- The parts of an edited object with their pieces, and what they are without them.
use Rattle.std.specs.Prelude.{ℕ, List, [], ◌∷◌}
use Rattle.std.specs.List.{flat_map}
use Rattle.tree_model.specs.Tree.{Pages}
use Rattle.layout_model.specs.declared.part.Part as layout
use Rattle.edit_parts.specs.declared.piece.Piece.{Piece}
use Rattle.edit_parts.specs.declared.part.Part.{Part}
use Rattle.edit_parts.specs.declared.part.Part.TheVariants.{Keep, Make}
use Rattle.edit_parts.specs.Pieces.{pieces_bytes, pieces_content, whole_piece}

-- a part as a layout knows it: a made one by its bytes alone
abbrev pub layout_part : Part → layout.Part
layout_part (Keep pair) = layout.TheVariants.Keep pair
layout_part (Make pieces) = layout.TheVariants.Make (pieces_bytes pieces)

-- the pieces of a part; a kept one is one piece
abbrev pub pieces_in : Part → List Piece
pieces_in (Keep pair) = whole_piece pair ∷ []
pieces_in (Make pieces) = pieces

-- the pieces of parts in their order
abbrev pub pieces_of : List Part → List Piece
pieces_of parts = flat_map pieces_in parts

-- the bytes of parts, where each page holds these bytes and the payload is this one
abbrev pub parts_content : Pages → ℕ → List ℕ → List Part → List ℕ
parts_content at size payload parts = pieces_content at size payload (pieces_of parts)
