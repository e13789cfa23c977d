-- Where a place lies in a window, and what it leaves of the entry that it lies inside.
use Rattle.std.specs.Prelude.{◌≡◌, ℕ, ◌+◌, ◌-◌, ◌*◌, ◌/◌, ◌%◌, ◌^◌, ◌<◌, ◌≤◌, min, nat_eq}
use Rattle.std.specs.Prelude.{List, [], ◌∷◌, nat_le, option_to_list, take, if◌then◌else◌}
use Rattle.tree_model.specs.declared.entry.Pair.{Pair}
use Rattle.tree_model.specs.Tree.{bytes_of, page_count}
use Rattle.layout_model.specs.Parts.{count_ended, one_after, right_of}
use Rattle.edit_parts.specs.declared.piece.Piece.{Piece}
use Rattle.edit_parts.specs.declared.piece.Piece.TheVariants.{Old, Given}
use Rattle.edit_plan.specs.declared.back.Back.{Back}

-- a place lies behind the first `ended` entries, all that end at it or before it, and `inside`
-- bytes behind these
pub record IsSpot (place : ℕ) (entries : List Pair) (ended inside : ℕ) : Type 0 where
  pub count : ended ≡ count_ended place entries
  pub sum : bytes_of (take ended entries) + inside ≡ place

-- a place lies inside an entry that has fewer than 2^32 bytes, on pages with numbers of 32 bits
pub record LiesInside (size at : ℕ) (p : Pair) : Type 0 where
  pub some : 0 < size
  pub within : at < p.bytes
  pub few : p.bytes < 2 ^ 32
  pub numbered : p.page + page_count size p.bytes ≤ 2 ^ 32

-- the bytes of an entry from a place inside it on to the next border of a page or its end, on their
-- page
abbrev pub head_in : ℕ → ℕ → Pair → Piece
head_in size at p =
    Old (p.page + at / size) (at % size) (min (page_count size at * size) p.bytes - at)

-- the bytes from a place on to the next border of a page or the end of the entry that it lies
-- inside; no byte of the payload where it lies inside none
abbrev pub head_piece : ℕ → ℕ → List Pair → Piece
head_piece size at [] = Given 0 0
head_piece size at (p ∷ ps) =
    if nat_le p.bytes at then head_piece size (at - p.bytes) ps
    else (if nat_eq at 0 then Given 0 0 else head_in size at p)

-- what is kept behind a place: the head, the rest of the entry that the place lies inside, and the
-- first entry that begins at the place or behind it
pub record IsBack (size place : ℕ) (entries : List Pair) (back : Back) : Type 0 where
  pub head_is : back.head ≡ head_piece size place entries
  pub right_is : option_to_list back.right ≡ right_of size place entries
  pub after_is : option_to_list back.after ≡ one_after place entries
