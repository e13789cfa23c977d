-- The bytes that a piece stands for, and where old bytes come from.
use Rattle.std.specs.Prelude.{ℕ, ◌+◌, ◌-◌, ◌*◌, ◌<◌, ◌≤◌, List, [], ◌∷◌, take, drop, ◌⊎◌}
use Rattle.std.specs.List.{flat_map, sum_by}
use Rattle.tree_model.specs.declared.entry.Pair.{Pair}
use Rattle.tree_model.specs.Content.{segment_bytes}
use Rattle.tree_model.specs.Tree.{Pages}
use Rattle.edit_parts.specs.declared.piece.Piece.{Piece}
use Rattle.edit_parts.specs.declared.piece.Piece.TheVariants.{Old, Given}

-- a segment as one piece
abbrev pub whole_piece : Pair → Piece
whole_piece pair = Old pair.page 0 pair.bytes

-- how many bytes a piece has
abbrev pub piece_bytes : Piece → ℕ
piece_bytes (Old page skip bytes) = bytes
piece_bytes (Given from bytes) = bytes

-- and how many pieces have together
abbrev pub pieces_bytes : List Piece → ℕ
pieces_bytes pieces = sum_by piece_bytes pieces

-- the bytes of a piece: those on its pages behind the skipped ones, or those of the payload
abbrev pub piece_content : Pages → ℕ → List ℕ → Piece → List ℕ
piece_content at size payload (Old page skip bytes) =
    drop skip (segment_bytes at size (record { bytes = skip + bytes; page = page }))
piece_content at size payload (Given from bytes) = take bytes (drop from payload)

-- the bytes of pieces, joined in order
abbrev pub pieces_content : Pages → ℕ → List ℕ → List Piece → List ℕ
pieces_content at size payload pieces = flat_map (piece_content at size payload) pieces

-- bytes on pages lie in a segment, and the first of them on the first of these pages
pub record LiesIn (size : ℕ) (p : Pair) (page skip bytes : ℕ) : Type 0 where
  pub start : skip < size
  pub first : p.page ≤ page
  pub last : (page - p.page) * size + (skip + bytes) ≤ p.bytes

-- they lie in one of these segments
abbrev pub LiesInOne : ℕ → List Pair → ℕ → ℕ → ℕ → Type 0
LiesInOne size [] page skip bytes = ⊥
LiesInOne size (p ∷ ps) page skip bytes =
    LiesIn size p page skip bytes ⊎ LiesInOne size ps page skip bytes

-- the bytes of a piece are bytes of these segments, or of a payload of so many bytes
abbrev pub IsFrom : ℕ → List Pair → ℕ → Piece → Type 0
IsFrom size entries given (Old page skip bytes) = LiesInOne size entries page skip bytes
IsFrom size entries given (Given from bytes) = from + bytes ≤ given
