-- Pieces cut by their bytes.
use Rattle.std.specs.Prelude.{ℕ, ◌+◌, ◌-◌, ◌*◌, ◌/◌, ◌%◌, ◌^◌, ◌<◌, ◌≤◌, min, nat_lt}
use Rattle.std.specs.Prelude.{List, [], ◌∷◌, ◌++◌, map, if◌then◌else◌}
use Rattle.tree_model.specs.declared.entry.Pair.{Pair}
use Rattle.tree_model.specs.Tree.{page_count}
use Rattle.layout_model.specs.declared.part.Part.{Part}
use Rattle.layout_model.specs.declared.part.Part.TheVariants.{Make}
use Rattle.edit_parts.specs.declared.piece.Piece.{Piece}
use Rattle.edit_parts.specs.declared.piece.Piece.TheVariants.{Old, Given}
use Rattle.edit_parts.specs.Pieces.{piece_bytes}

-- the pages of a piece have numbers of 32 bits, and its places in the payload ones of 64
abbrev pub IsNumbered : ℕ → Piece → Type 0
IsNumbered size (Old page skip bytes) = page + page_count size (skip + bytes) ≤ 2 ^ 32
IsNumbered size (Given from bytes) = from + bytes < 2 ^ 64

-- `count` bytes of a piece behind its first `skip`
abbrev pub piece_part : ℕ → ℕ → ℕ → Piece → Piece
piece_part size skip count (Old page before bytes) =
    Old (page + (before + skip) / size) ((before + skip) % size) count
piece_part size skip count (Given from bytes) = Given (from + skip) count

-- the bytes of a piece from one place on and before another, where there are any
abbrev pub part_between : ℕ → ℕ → ℕ → Piece → List Piece
part_between size from to piece =
    if nat_lt from (min to (piece_bytes piece))
    then piece_part size from (min to (piece_bytes piece) - from) piece ∷ []
    else []

-- the bytes of pieces from one place on and before another
abbrev pub stretch_of : ℕ → ℕ → ℕ → List Piece → List Piece
stretch_of size from to [] = []
stretch_of size from to (piece ∷ rest) =
    part_between size from to piece
    ++ stretch_of size (from - piece_bytes piece) (to - piece_bytes piece) rest

-- the bytes of pieces from a place on, in stretches of these lengths
abbrev pub stretches : ℕ → ℕ → List ℕ → List Piece → List (List Piece)
stretches size from [] pieces = []
stretches size from (count ∷ counts) pieces =
    stretch_of size from (from + count) pieces ∷ stretches size (from + count) counts pieces

-- how many of so many bytes stand on runs of these pages: all are full but the last
abbrev pub lengths_on : ℕ → ℕ → List ℕ → List ℕ
lengths_on size bytes [] = []
lengths_on size bytes (pages ∷ rest) =
    min bytes (pages * size) ∷ lengths_on size (bytes - pages * size) rest

-- new parts that stand on these segments
abbrev pub made_on : List Pair → List Part
made_on segments = map (λ segment. Make segment.bytes) segments
