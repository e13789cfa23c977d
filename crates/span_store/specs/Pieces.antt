-- Spans in pieces: one piece behind the other they are one list, and there is room for some more.
use Rattle.std.specs.Prelude.{◌≡◌, ℕ, ◌+◌, ◌-◌, ◌*◌, ◌<◌, ◌≤◌, ◌⊎◌, List, [], ◌∷◌, ◌++◌, suc}
use Rattle.std.specs.Prelude.{length, take, drop, set, slice_index_or}
use Rattle.page_port.specs.Pages.{KeepsOthers}
use Rattle.span_store.specs.Held.{HeldSpan}
use Rattle.span_store.specs.Order.{InOrder, IsBorder, IsRank, first_at, no_span, with_cut}

-- the spans of all pieces, in their order
abbrev pub spans_in : List (List HeldSpan) → List HeldSpan
spans_in [] = []
spans_in (piece ∷ pieces) = piece ++ spans_in pieces

-- the piece at i
abbrev pub piece_at : List (List HeldSpan) → ℕ → List HeldSpan
piece_at pieces i = slice_index_or pieces i []

-- where the last of these spans ends, where there is one
abbrev pub end_in : List HeldSpan → ℕ
end_in spans =
    (slice_index_or spans (length spans - 1) no_span).first
    + length (slice_index_or spans (length spans - 1) no_span).pages

-- how many spans stand in the pieces before the one at i
abbrev pub count_before : List (List HeldSpan) → ℕ → ℕ
count_before pieces i = length (spans_in (take i pieces))

-- and how many before the j-th of its own
abbrev pub rank_of : List (List HeldSpan) → ℕ → ℕ → ℕ
rank_of pieces i j = count_before pieces i + j

-- each piece has a span, and none has more than 128
abbrev pub AreWithinLimit : List (List HeldSpan) → Type 0
AreWithinLimit [] = Unit {0}
AreWithinLimit (piece ∷ pieces) = (1 ≤ length piece) × (length piece ≤ 128) × AreWithinLimit pieces

-- there is a piece at i, and it has a span at j
pub record IsAt (pieces : List (List HeldSpan)) (i j : ℕ) : Type 0 where
  pub within : i < length pieces
  pub inner : j < length (piece_at pieces i)

-- it is so where there is a piece at i
abbrev pub IsAtOrEnd : List (List HeldSpan) → ℕ → ℕ → Type 0
IsAtOrEnd pieces i j = i < length pieces → j < length (piece_at pieces i)

-- the span at j of the piece at i is the last that begins at the page or before it
pub record IsLastBegun (pieces : List (List HeldSpan)) (page i j : ℕ) : Type 0 where
  pub at : IsAt pieces i j
  pub rank : IsRank (spans_in pieces) page (rank_of pieces i j + 1)

-- just the first k spans begin before the page
pub record IsCountBefore (spans : List HeldSpan) (page k : ℕ) : Type 0 where
  pub within : k ≤ length spans
  pub before : 0 < k → first_at spans (k - 1) < page
  pub behind : k < length spans → page ≤ first_at spans k

-- the span at j of the piece at i is the first that begins at the page or behind it; where there
-- is no such piece none does
pub record IsFirstFrom (pieces : List (List HeldSpan)) (page i j : ℕ) : Type 0 where
  pub at : IsAtOrEnd pieces i j
  pub count : IsCountBefore (spans_in pieces) page (rank_of pieces i j)

-- the span at j of the piece at i stands before the one at l of the piece at k
pub record IsBefore (pieces : List (List HeldSpan)) (i j k l : ℕ) : Type 0 where
  pub at : IsAt pieces i j
  pub rank : rank_of pieces k l ≡ rank_of pieces i j + 1
  pub order : (i < k) ⊎ ((i ≡ k) × (j + 1 ≡ l))

-- these two spans meet at the page
pub record IsBorderAt (pieces : List (List HeldSpan)) (page i j k l : ℕ) : Type 0 where
  pub border : IsBorder (spans_in pieces) page (rank_of pieces i j)
  pub next : IsAt pieces k l
  pub before : IsBefore pieces i j k l

-- the piece at i is the one that a page belongs to: it is the first one or begins at the page or
-- before it, and the next one begins behind it
pub record IsPieceOf (pieces : List (List HeldSpan)) (page i : ℕ) : Type 0 where
  pub within : i < length pieces
  pub before : 0 < i → first_at (piece_at pieces i) 0 ≤ page
  pub behind : i + 1 < length pieces → page < first_at (piece_at pieces (i + 1)) 0

-- how many spans the pieces have above 64 each
abbrev pub above_half : List (List HeldSpan) → ℕ
above_half [] = 0
above_half (piece ∷ pieces) = (length piece - 64) + above_half pieces

-- how many spans are to come less than 64 for each spare piece, so that the spare ones are enough:
-- those above the half of each piece, or 64 where there is no piece yet
abbrev pub load : List (List HeldSpan) → ℕ
load [] = 64
load (piece ∷ pieces) = above_half (piece ∷ pieces)

-- with so many spare pieces n more spans find room, wherever they go: each takes a spare one at
-- most, and a piece that was split takes 64 more before it is split again
abbrev pub AreEnough : ℕ → ℕ → ℕ → Type 0
AreEnough spare loaded n = (n ≤ spare) ⊎ (n + loaded ≤ 64 * spare)

-- pieces with spans beside spare ones without: neither vector has to grow where a spare piece is
-- put among the others, or one of them is spare again
pub record IsStocked (pieces spare : List (List HeldSpan)) (places spare_places : ℕ) : Type 0 where
  pub filled : AreWithinLimit pieces
  pub empty : spans_in spare ≡ []
  pub fits : length pieces + length spare ≤ places
  pub fits_back : length pieces + length spare ≤ spare_places

-- a piece is in two: its first 64 spans, and the others
abbrev pub with_split : List (List HeldSpan) → ℕ → List (List HeldSpan)
with_split pieces i =
    take i pieces ++ (take 64 (piece_at pieces i) ∷ drop 64 (piece_at pieces i)
    ∷ drop (suc i) pieces)

-- up to the j-th span of the piece at i all is as it was
pub record IsSameUpTo (i j : ℕ) (old new : List (List HeldSpan)) : Type 0 where
  pub pieces : take i new ≡ take i old
  pub spans : 0 < j → take j (piece_at new i) ≡ take j (piece_at old i)

-- as many pieces as before, as full as before
pub record IsSameRow (old new : List (List HeldSpan)) : Type 0 where
  pub count : length new ≡ length old
  pub filled : AreWithinLimit old → AreWithinLimit new
  pub loaded : load new ≡ load old

-- the spans are those that were there, and one between them at the place of its first page
pub record IsInserted (s : HeldSpan) (old new : List HeldSpan) : Type 0 where
  pub place : ℕ
  pub rank : IsRank old s.first place
  pub spans : new ≡ take place old ++ (s ∷ drop place old)

-- the span that has a page is cut there
pub record IsCutIn (page : ℕ) (old new : List HeldSpan) : Type 0 where
  pub place : ℕ
  pub within : place < length old
  pub from : first_at old place < page
  pub to : page < first_at old place + length (slice_index_or old place no_span).pages
  pub spans : new ≡ with_cut old place (page - first_at old place)

-- the span at i may hold something else on n pages of its, from this page on
pub record IsOverAt (i page n : ℕ) (old new : List HeldSpan) : Type 0 where
  pub spans : new ≡ set old i (slice_index_or new i no_span)
  pub first : first_at new i ≡ first_at old i
  pub others : KeepsOthers (page - first_at old i) n
      (slice_index_or old i no_span).pages (slice_index_or new i no_span).pages

-- what the holdings keep: pieces in order, and room for n more spans
pub record IsFiled (pieces spare : List (List HeldSpan))
    (places spare_places n : ℕ) : Type 0 where
  pub order : InOrder 0 (spans_in pieces)
  pub row : IsStocked pieces spare places spare_places
  pub room : AreEnough (length spare) (load pieces) n
