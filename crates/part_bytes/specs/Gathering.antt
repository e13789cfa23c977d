-- Pieces whose bytes are there: which of them can be gathered, and what is read for them.
use Rattle.std.specs.Prelude.{ℕ, ◌+◌, ◌<◌, ◌≤◌, ◌^◌, List, [], ◌∷◌}
use Rattle.std.specs.List.{sum_by}
use Rattle.edit_parts.specs.declared.piece.Piece.{Piece}
use Rattle.edit_parts.specs.declared.piece.Piece.TheVariants.{Old, Given}
use Rattle.span_store.specs.Held.{Held}
use Rattle.seg_bytes.specs.Segments.{HoldsBytes, touched}

-- the pages of old bytes are held
pub record AreHeld (held : Held) (size page skip bytes : ℕ) : Type 0 where
  pub pages : HoldsBytes held size page (skip + bytes)
  pub fits : skip + bytes < 2 ^ 64

-- old bytes stand on pages that are held, and new ones are bytes of a payload of so many
abbrev pub CanGather : Held → ℕ → ℕ → Piece → Type 0
CanGather held size given (Old page skip bytes) = AreHeld held size page skip bytes
CanGather held size given (Given from bytes) = from + bytes ≤ given

-- the pages that have a byte of a piece; new bytes have none
abbrev pub piece_reads : ℕ → Piece → ℕ
piece_reads size (Old page skip bytes) =
    touched size (record { bytes = skip + bytes; page = page } ∷ []) skip bytes
piece_reads size (Given from bytes) = 0

-- and those of pieces, one after the other
abbrev pub pieces_reads : ℕ → List Piece → ℕ
pieces_reads size pieces = sum_by (piece_reads size) pieces
