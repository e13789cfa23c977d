-- Pieces cut by their bytes: what they hold, how many bytes they have, and where these come from.
use Rattle.std.proofs.Common.{◌≡◌, ℕ, zero, suc, ◌+◌, ◌-◌, ◌*◌, ◌/◌, ◌%◌, ◌<◌, ◌≤◌, min, true, false, List, [], ◌∷◌}
use Rattle.std.proofs.Common.{◌++◌, length, map, take, drop, refl, sym, ap, subst, arith, ◌∙◌, inl, inr}
use Rattle.std.proofs.Common.{length-append, length-take, length-drop, sum, sum_by, nat_lt}
use Rattle.std.specs.List.{AllByRecursion, flat_map}
use Rattle.std.proofs.Math.Nat.{add-mul}
use Rattle.std.proofs.Math.Seq.{take-add}
use Rattle.std.proofs.lemmas.Bool.{cases_Bool, cases_lt, ltb-true, ltb-false}
use Rattle.std.proofs.lemmas.Nat.{div-add-mod', mod_below}
use Rattle.std.proofs.lemmas.List.{append-nil, drop-drop, drop-take, drop_all}
use Rattle.std.proofs.lemmas.List.{take-take, take_all}
use Rattle.std.proofs.lemmas.List.Concat.{flat_map-append}
use Rattle.std.proofs.lemmas.List.Sums.{sum_by-append, sum_by-cons}
use Rattle.base_laws.proofs.ListLaws.{all-append}
use Rattle.tree_model.specs.declared.entry.Pair.{Pair}
use Rattle.tree_model.specs.Content.{content, segment_bytes}
use Rattle.tree_model.specs.Tree.{Pages, page_count}
use Rattle.tree_model.proofs.PageCountLaws.{count-behind}
use Rattle.layout_model.specs.declared.extent.Extent.{Extent}
use Rattle.layout_model.specs.declared.part.Part as layout
use Rattle.layout_model.specs.Layout.{segments_on}
use Rattle.content_laws.specs.Spelling.{IsThere}
use Rattle.content_laws.proofs.SpellingLemmas.{segment-left, segment-length, segment-right}
use Rattle.edit_parts.specs.declared.part.Part.TheVariants.{Keep, Make}
use Rattle.edit_parts.specs.declared.piece.Piece.{Piece}
use Rattle.edit_parts.specs.declared.piece.Piece.TheVariants.{Old, Given}
use Rattle.edit_parts.specs.Pieces.{IsFrom, LiesIn, LiesInOne, piece_bytes, piece_content, pieces_bytes, pieces_content, whole_piece}
use Rattle.edit_parts.specs.Parts.{layout_part, pieces_of}
use Rattle.edit_plan.specs.Cuts.{lengths_on, made_on, part_between, piece_part, stretch_of, stretches}

-- ---- lists

-- the bytes of two lists from one place on and before another
drop-take-append : (from to : ℕ) (xs ys : List ℕ) → from ≤ to →
    drop from (take to (xs ++ ys)) ≡ drop from (take to xs) ++ drop (from - length xs) (take (to - length xs) ys)
drop-take-append from to [] ys le =
    let nil : List ℕ = [] in
    let none1 : from - 0 ≡ from = omega arith in
    let none2 : to - 0 ≡ to = omega arith in
    let short = length-take to nil in
    let few : length (take to nil) ≤ from = omega (arith, short) in
    ap (λ (k : ℕ). drop k (take to ys)) (sym none1)
    ∙ (ap (λ (k : ℕ). drop (from - 0) (take k ys)) (sym none2)
    ∙ ap (λ (zs : List ℕ). zs ++ drop (from - 0) (take (to - 0) ys)) (sym (drop_all from (take to nil) few)))
drop-take-append zero zero (x ∷ xs) ys le =
    let same : 0 - suc (length xs) ≡ 0 = omega arith in
    sym (ap (λ (k : ℕ). drop k (take k ys)) same)
drop-take-append zero (suc to) (x ∷ xs) ys le =
    let step = drop-take-append zero to xs ys (omega arith) in
    let same1 : 0 - suc (length xs) ≡ 0 - length xs = omega arith in
    let same2 : suc to - suc (length xs) ≡ to - length xs = omega arith in
    ap (λ (zs : List ℕ). x ∷ zs) step
    ∙ (ap (λ (k : ℕ). (x ∷ take to xs) ++ drop k (take (to - length xs) ys)) (sym same1)
    ∙ ap (λ (k : ℕ). (x ∷ take to xs) ++ drop (0 - suc (length xs)) (take k ys)) (sym same2))
drop-take-append (suc from) zero (x ∷ xs) ys le = absurd (omega (arith, le))
drop-take-append (suc from) (suc to) (x ∷ xs) ys le =
    let step = drop-take-append from to xs ys (omega (arith, le)) in
    let same1 : suc from - suc (length xs) ≡ from - length xs = omega arith in
    let same2 : suc to - suc (length xs) ≡ to - length xs = omega arith in
    step
    ∙ (ap (λ (k : ℕ). drop from (take to xs) ++ drop k (take (to - length xs) ys)) (sym same1)
    ∙ ap (λ (k : ℕ). drop from (take to xs) ++ drop (suc from - suc (length xs)) (take k ys)) (sym same2))

-- no more is taken than there is
take-min : (n : ℕ) (xs : List ℕ) → take n xs ≡ take (min n (length xs)) xs
take-min n xs =
    elim (cases_lt n (length xs)) [
      | inl less ↦ let few : min n (length xs) ≡ n = omega (arith, less) in ap (λ (k : ℕ). take k xs) (sym few)
      | inr more ↦
          let all : min n (length xs) ≡ length xs = omega (arith, more) in
          let reach : length xs ≤ length xs = omega arith in
          take_all n xs more ∙ (sym (take_all (length xs) xs reach) ∙ ap (λ (k : ℕ). take k xs) (sym all))
    ]

-- some of what was taken behind a place
drop-within : (place skip count bytes : ℕ) (xs : List ℕ) → skip + count ≤ bytes →
    take count (drop skip (take bytes (drop place xs))) ≡ take count (drop (place + skip) xs)
drop-within place skip count bytes xs fits =
    let rest = bytes - skip in
    let split : skip + rest ≡ bytes = omega (arith, fits) in
    let less : count ≤ rest = omega (arith, fits) in
    ap (λ (k : ℕ). take count (drop skip (take k (drop place xs)))) (sym split)
    ∙ (ap (take count) (drop-take skip rest (drop place xs))
    ∙ (take-take count rest (drop skip (drop place xs)) less
    ∙ ap (take count) (drop-drop skip place xs)))

-- ---- what pieces hold

-- a segment as one piece holds its bytes
pub whole-content : (at : Pages) (size : ℕ) (payload : List ℕ) (p : Pair) →
    piece_content at size payload (whole_piece p) ≡ segment_bytes at size p
whole-content at size payload p =
    let none : 0 + p.bytes ≡ p.bytes = omega arith in
    ap (λ (b : ℕ). segment_bytes at size (record { bytes = b; page = p.page })) none

-- and so do kept parts
pub kept-content : (at : Pages) (size : ℕ) (payload : List ℕ) (pairs : List Pair) →
    pieces_content at size payload (pieces_of (map Keep pairs)) ≡ content at size pairs
kept-content at size payload [] = refl
kept-content at size payload (p ∷ ps) =
    ap (λ (xs : List ℕ). xs ++ pieces_content at size payload (pieces_of (map Keep ps))) (whole-content at size payload p)
    ∙ ap (λ (xs : List ℕ). segment_bytes at size p ++ xs) (kept-content at size payload ps)

-- the pages behind the first ones of a segment are there too
there-behind : (at : Pages) (size : ℕ) (p : Pair) (d : ℕ) → 0 < size → d * size ≤ p.bytes → IsThere at size p →
    IsThere at size (record { bytes = p.bytes - d * size; page = p.page + d })
there-behind at size p d some fits there =
    let rest = p.bytes - d * size in
    let bytes : p.bytes ≡ d * size + rest = omega (arith, fits) in
    let count : page_count size p.bytes ≡ d + page_count size rest = ap (page_count size) bytes ∙ count-behind size d rest some in
    λ k below.
    let less : d + k < page_count size p.bytes = omega (arith, count, below) in
    let same : p.page + d + k ≡ p.page + (d + k) = omega arith in
    ap (λ (q : ℕ). length (at q)) same ∙ there (d + k) less

-- bytes on the pages of a segment are bytes of the segment
old-at : (at : Pages) (size : ℕ) (payload : List ℕ) (p : Pair) (d skip bytes : ℕ) → 0 < size →
    d * size + (skip + bytes) ≤ p.bytes → IsThere at size p →
    piece_content at size payload (Old (p.page + d) skip bytes) ≡ take bytes (drop (d * size + skip) (segment_bytes at size p))
old-at at size payload p d skip bytes some fits there =
    let seg = segment_bytes at size p in
    let behind : Pair = record { bytes = p.bytes - d * size; page = p.page + d } in
    let first : d * size ≤ p.bytes = omega (arith, fits) in
    let right = segment-right at size p d some first there in
    let within : skip + bytes ≤ p.bytes - d * size = omega (arith, fits) in
    let left = segment-left at size behind (skip + bytes) some within (there-behind at size p d some first there) in
    ap (drop skip) left
    ∙ (drop-take skip bytes (segment_bytes at size behind)
    ∙ (ap (λ (xs : List ℕ). take bytes (drop skip xs)) right
    ∙ ap (take bytes) (drop-drop skip (d * size) seg)))

-- the segment that bytes lie in, with its pages there
pub record IsHeld (at : Pages) (size : ℕ) (p : Pair) (page skip bytes : ℕ) : Type 0 where
  pub lies : LiesIn size p page skip bytes
  pub there : IsThere at size p

pub lies-held : (at : Pages) (size : ℕ) (entries : List Pair) (page skip bytes : ℕ) → LiesInOne size entries page skip bytes →
    AllByRecursion (IsThere at size) entries → (p : Pair) × IsHeld at size p page skip bytes
lies-held at size [] page skip bytes lies there = absurd lies
lies-held at size (p ∷ ps) page skip bytes lies there =
    elim lies [
      | inl here ↦ (p, record { lies = here; there = there.0 })
      | inr behind ↦ lies-held at size ps page skip bytes behind there.1
    ]

pub old-content : (at : Pages) (size : ℕ) (payload : List ℕ) (p : Pair) (page skip bytes : ℕ) → 0 < size →
    IsHeld at size p page skip bytes →
    piece_content at size payload (Old page skip bytes) ≡ take bytes (drop ((page - p.page) * size + skip) (segment_bytes at size p))
old-content at size payload p page skip bytes some held =
    let first = held.lies.first in
    let last = held.lies.last in
    let same : page ≡ p.page + (page - p.page) = omega (arith, first) in
    ap (λ (q : ℕ). piece_content at size payload (Old q skip bytes)) same
    ∙ old-at at size payload p (page - p.page) skip bytes some last held.there

-- each page of these entries is there, and pages have bytes
pub record AreThere (at : Pages) (size : ℕ) (entries : List Pair) : Type 0 where
  pub some : 0 < size
  pub there : AllByRecursion (IsThere at size) entries

-- a piece has as many bytes as it says
pub piece-length : (at : Pages) (size : ℕ) (payload : List ℕ) (entries : List Pair) (piece : Piece) → AreThere at size entries →
    IsFrom size entries (length payload) piece → length (piece_content at size payload piece) ≡ piece_bytes piece
piece-length at size payload entries (Old page skip bytes) made from =
    let found = lies-held at size entries page skip bytes from made.there in
    let p = found.0 in
    let held = found.1 in
    let place = (page - p.page) * size + skip in
    let last = held.lies.last in
    let seg = segment-length at size p made.some held.there in
    let cut = length-take bytes (drop place (segment_bytes at size p)) in
    let behind = length-drop place (segment_bytes at size p) in
    let long : length (take bytes (drop place (segment_bytes at size p))) ≡ bytes = omega (arith, cut, behind, seg, last) in
    ap length (old-content at size payload p page skip bytes made.some held) ∙ long
piece-length at size payload entries (Given from bytes) made fits =
    let cut = length-take bytes (drop from payload) in
    let behind = length-drop from payload in
    let within : from + bytes ≤ length payload = fits in
    omega (arith, cut, behind, within)

pub pieces-length : (at : Pages) (size : ℕ) (payload : List ℕ) (entries : List Pair) (pieces : List Piece) → AreThere at size entries →
    AllByRecursion (IsFrom size entries (length payload)) pieces → length (pieces_content at size payload pieces) ≡ pieces_bytes pieces
pieces-length at size payload entries [] made from = refl
pieces-length at size payload entries (piece ∷ rest) made from =
    let one = piece-length at size payload entries piece made from.0 in
    let more = pieces-length at size payload entries rest made from.1 in
    let both = length-append (piece_content at size payload piece) (pieces_content at size payload rest) in
    let all = sum_by-cons piece_bytes piece rest in
    omega (arith, one, more, both, all)

-- ---- a part of a piece

-- the place of a byte behind others, from the first page of its segment on
part-place : (size first page before skip : ℕ) → first ≤ page →
    (page + (before + skip) / size - first) * size + (before + skip) % size ≡ (page - first) * size + before + skip
part-place size first page before skip low =
    let more = (before + skip) / size in
    let moved : page + more - first ≡ page - first + more = omega (arith, low) in
    let rows : (page - first + more) * size ≡ (page - first) * size + more * size = add-mul (page - first) more size in
    let rest = div-add-mod' (before + skip) size in
    let same : (page + more - first) * size ≡ (page - first + more) * size = ap (λ (n : ℕ). n * size) moved in
    omega (arith, rows, rest, same)

part-lies : (size : ℕ) (p : Pair) (page before bytes skip count : ℕ) → 0 < size → skip + count ≤ bytes → LiesIn size p page before bytes →
    LiesIn size p (page + (before + skip) / size) ((before + skip) % size) count
part-lies size p page before bytes skip count some fits lies =
    let low = lies.first in
    let last = lies.last in
    let place = part-place size p.page page before skip low in
    record {
      start = mod_below (before + skip) size some;
      first = omega (arith, low);
      last = omega (arith, place, last, fits);
    }

part-lies_one : (size : ℕ) (entries : List Pair) (page before bytes skip count : ℕ) → 0 < size → skip + count ≤ bytes →
    LiesInOne size entries page before bytes →
    LiesInOne size entries (page + (before + skip) / size) ((before + skip) % size) count
part-lies_one size [] page before bytes skip count some fits lies = lies
part-lies_one size (p ∷ ps) page before bytes skip count some fits lies =
    elim lies [
      | inl here ↦ inl (part-lies size p page before bytes skip count some fits here)
      | inr behind ↦ inr (part-lies_one size ps page before bytes skip count some fits behind)
    ]

-- it comes from where the piece does
part-from : (size : ℕ) (entries : List Pair) (given skip count : ℕ) (piece : Piece) → 0 < size → skip + count ≤ piece_bytes piece →
    IsFrom size entries given piece → IsFrom size entries given (piece_part size skip count piece)
part-from size entries given skip count (Old page before bytes) some fits from =
    part-lies_one size entries page before bytes skip count some fits from
part-from size entries given skip count (Given place bytes) some fits from =
    let within : place + bytes ≤ given = from in
    let less : skip + count ≤ bytes = fits in
    omega (arith, within, less)

-- and holds its bytes
part-content : (at : Pages) (size : ℕ) (payload : List ℕ) (entries : List Pair) (skip count : ℕ) (piece : Piece) →
    AreThere at size entries →
    IsFrom size entries (length payload) piece → skip + count ≤ piece_bytes piece →
    piece_content at size payload (piece_part size skip count piece) ≡ take count (drop skip (piece_content at size payload piece))
part-content at size payload entries skip count (Old page before bytes) made from fits =
    let found = lies-held at size entries page before bytes from made.there in
    let p = found.0 in
    let held = found.1 in
    let seg = segment_bytes at size p in
    let place = (page - p.page) * size + before in
    let part : IsHeld at size p (page + (before + skip) / size) ((before + skip) % size) count =
    record { lies = part-lies size p page before bytes skip count made.some fits held.lies; there = held.there } in
    let whole = old-content at size payload p page before bytes made.some held in
    old-content at size payload p (page + (before + skip) / size) ((before + skip) % size) count made.some part
    ∙ (ap (λ (k : ℕ). take count (drop k seg)) (part-place size p.page page before skip held.lies.first)
    ∙ (sym (drop-within place skip count bytes seg fits)
    ∙ ap (λ (xs : List ℕ). take count (drop skip xs)) (sym whole)))
part-content at size payload entries skip count (Given place bytes) made from fits =
    sym (drop-within place skip count bytes payload fits)

-- ---- a stretch of pieces

-- the test of a part that is there
between-some : (size from to : ℕ) (piece : Piece) → nat_lt from (min to (piece_bytes piece)) ≡ true →
    part_between size from to piece ≡ piece_part size from (min to (piece_bytes piece) - from) piece ∷ []
between-some size from to piece some = rw (some, part_between)

between-none : (size from to : ℕ) (piece : Piece) → nat_lt from (min to (piece_bytes piece)) ≡ false → part_between size from to piece ≡ []
between-none size from to piece none = rw (none, part_between)

part-bytes : (size skip count : ℕ) (piece : Piece) → piece_bytes (piece_part size skip count piece) ≡ count
part-bytes size skip count (Old page before bytes) = refl
part-bytes size skip count (Given place bytes) = refl

between-bytes : (size from to : ℕ) (piece : Piece) → pieces_bytes (part_between size from to piece) ≡ min to (piece_bytes piece) - from
between-bytes size from to piece =
    let end = min to (piece_bytes piece) in
    elim (cases_Bool (nat_lt from end)) [
      | inl some ↦
          let one = sum_by-cons piece_bytes (piece_part size from (end - from) piece) [] in
          let count = part-bytes size from (end - from) piece in
          let here : pieces_bytes (piece_part size from (end - from) piece ∷ []) ≡ end - from = omega (arith, one, count) in
          ap pieces_bytes (between-some size from to piece some) ∙ here
      | inr none ↦
          let more = ltb-false from end none in
          let here : 0 ≡ end - from = omega (arith, more) in
          ap pieces_bytes (between-none size from to piece none) ∙ here
    ]

between-from : (size : ℕ) (entries : List Pair) (given from to : ℕ) (piece : Piece) → 0 < size → IsFrom size entries given piece →
    AllByRecursion (IsFrom size entries given) (part_between size from to piece)
between-from size entries given from to piece some made =
    let end = min to (piece_bytes piece) in
    let P : List Piece → Type 0 = AllByRecursion (IsFrom size entries given) in
    elim (cases_Bool (nat_lt from end)) [
      | inl here ↦
          let less = ltb-true from end here in
          let fits : from + (end - from) ≤ piece_bytes piece = omega (arith, less) in
          subst P (sym (between-some size from to piece here)) (part-from size entries given from (end - from) piece some fits made, tt)
      | inr none ↦ subst P (sym (between-none size from to piece none)) tt
    ]

between-content : (at : Pages) (size : ℕ) (payload : List ℕ) (entries : List Pair) (from to : ℕ) (piece : Piece) →
    AreThere at size entries →
    IsFrom size entries (length payload) piece →
    pieces_content at size payload (part_between size from to piece) ≡ drop from (take to (piece_content at size payload piece))
between-content at size payload entries from to piece made each =
    let c = piece_content at size payload piece in
    let long = piece-length at size payload entries piece made each in
    let end = min to (piece_bytes piece) in
    let reach : min to (length c) ≡ end = ap (min to) long in
    let cut : take to c ≡ take end c = take-min to c ∙ ap (λ (k : ℕ). take k c) reach in
    elim (cases_Bool (nat_lt from end)) [
      | inl some ↦
          let less = ltb-true from end some in
          let fits : from + (end - from) ≤ piece_bytes piece = omega (arith, less) in
          let split : from + (end - from) ≡ end = omega (arith, less) in
          ap (pieces_content at size payload) (between-some size from to piece some)
          ∙ (append-nil (piece_content at size payload (piece_part size from (end - from) piece))
          ∙ (part-content at size payload entries from (end - from) piece made each fits
          ∙ (sym (drop-take from (end - from) c)
          ∙ (ap (λ (k : ℕ). drop from (take k c)) split
          ∙ ap (drop from) (sym cut)))))
      | inr none ↦
          let more = ltb-false from end none in
          let short = length-take end c in
          let few : length (take end c) ≤ from = omega (arith, short, more) in
          ap (pieces_content at size payload) (between-none size from to piece none)
          ∙ (sym (drop_all from (take end c) few) ∙ ap (drop from) (sym cut))
    ]

-- it has the bytes between its places
pub stretch-bytes : (size from to : ℕ) (pieces : List Piece) → from ≤ to →
    pieces_bytes (stretch_of size from to pieces) ≡ min to (pieces_bytes pieces) - from
stretch-bytes size from to [] le = let none : 0 ≡ min to 0 - from = omega arith in none
stretch-bytes size from to (piece ∷ rest) le =
    let b = piece_bytes piece in
    let one = between-bytes size from to piece in
    let more = stretch-bytes size (from - b) (to - b) rest (omega (arith, le)) in
    let both = sum_by-append piece_bytes (part_between size from to piece) (stretch_of size (from - b) (to - b) rest) in
    let all = sum_by-cons piece_bytes piece rest in
    omega (arith, one, more, both, all, le)

-- which are those of the pieces
pub stretch-content : (at : Pages) (size : ℕ) (payload : List ℕ) (entries : List Pair) (from to : ℕ)
    (pieces : List Piece) → AreThere at size entries →
    from ≤ to → AllByRecursion (IsFrom size entries (length payload)) pieces →
    pieces_content at size payload (stretch_of size from to pieces) ≡ drop from (take to (pieces_content at size payload pieces))
stretch-content at size payload entries from to [] made le each =
    let nil : List ℕ = [] in
    let short = length-take to nil in
    let few : length (take to nil) ≤ from = omega (arith, short) in
    sym (drop_all from (take to nil) few)
stretch-content at size payload entries from to (piece ∷ rest) made le each =
    let b = piece_bytes piece in
    let c = piece_content at size payload piece in
    let more = pieces_content at size payload rest in
    let long = piece-length at size payload entries piece made each.0 in
    let less : from - b ≤ to - b = omega (arith, le) in
    flat_map-append (piece_content at size payload) (part_between size from to piece) (stretch_of size (from - b) (to - b) rest)
    ∙ (ap (λ (xs : List ℕ). xs ++ pieces_content at size payload (stretch_of size (from - b) (to - b) rest))
    (between-content at size payload entries from to piece made each.0)
    ∙ (ap (λ (xs : List ℕ). drop from (take to c) ++ xs) (stretch-content at size payload entries (from - b) (to - b) rest made less each.1)
    ∙ (ap (λ (k : ℕ). drop from (take to c) ++ drop (from - k) (take (to - k) more)) (sym long)
    ∙ sym (drop-take-append from to c more le))))

-- and come from where they do
pub stretch-from : (size : ℕ) (entries : List Pair) (given from to : ℕ) (pieces : List Piece) → 0 < size →
    AllByRecursion (IsFrom size entries given) pieces →
    AllByRecursion (IsFrom size entries given) (stretch_of size from to pieces)
stretch-from size entries given from to [] some each = tt
stretch-from size entries given from to (piece ∷ rest) some each =
    all-append (IsFrom size entries given) (part_between size from to piece)
    (stretch_of size (from - piece_bytes piece) (to - piece_bytes piece) rest)
    (between-from size entries given from to piece some each.0)
    (stretch-from size entries given (from - piece_bytes piece) (to - piece_bytes piece) rest some each.1)

-- ---- pieces cut into stretches

abbrev pub total : List ℕ → ℕ
total ns = sum_by (λ n. n) ns

pub stretches-bytes : (size from : ℕ) (counts : List ℕ) (pieces : List Piece) →
    from + total counts ≤ pieces_bytes pieces → map pieces_bytes (stretches size from counts pieces) ≡ counts
stretches-bytes size from [] pieces fits = refl
stretches-bytes size from (n ∷ ns) pieces fits =
    let all = sum_by-cons (λ (k : ℕ). k) n ns in
    let le : from ≤ from + n = omega arith in
    let one = stretch-bytes size from (from + n) pieces le in
    let here : pieces_bytes (stretch_of size from (from + n) pieces) ≡ n = omega (arith, one, all, fits) in
    let more = stretches-bytes size (from + n) ns pieces (omega (arith, all, fits)) in
    ap (λ (k : ℕ). k ∷ map pieces_bytes (stretches size (from + n) ns pieces)) here ∙ ap (λ (ks : List ℕ). n ∷ ks) more

pub stretches-content : (at : Pages) (size : ℕ) (payload : List ℕ) (entries : List Pair) (from : ℕ) (counts : List ℕ)
    (pieces : List Piece) →
    AreThere at size entries → AllByRecursion (IsFrom size entries (length payload)) pieces →
    flat_map (pieces_content at size payload) (stretches size from counts pieces) ≡ take (total counts)
    (drop from (pieces_content at size payload pieces))
stretches-content at size payload entries from [] pieces made each = refl
stretches-content at size payload entries from (n ∷ ns) pieces made each =
    let c = pieces_content at size payload pieces in
    let all = sum_by-cons (λ (k : ℕ). k) n ns in
    let le : from ≤ from + n = omega arith in
    let one = stretch-content at size payload entries from (from + n) pieces made le each ∙ drop-take from n c in
    let more = stretches-content at size payload entries (from + n) ns pieces made each ∙ ap (take (total ns)) (sym (drop-drop n from c)) in
    ap (λ (xs : List ℕ). xs ++ flat_map (pieces_content at size payload) (stretches size (from + n) ns pieces)) one
    ∙ (ap (λ (xs : List ℕ). take n (drop from c) ++ xs) more
    ∙ (sym (take-add n (total ns) (drop from c))
    ∙ ap (λ (k : ℕ). take k (drop from c)) (sym all)))

-- made parts hold what their pieces do
pub made-content : (at : Pages) (size : ℕ) (payload : List ℕ) (cuts : List (List Piece)) →
    pieces_content at size payload (pieces_of (map Make cuts)) ≡ flat_map (pieces_content at size payload) cuts
made-content at size payload [] = refl
made-content at size payload (cut ∷ cuts) =
    flat_map-append (piece_content at size payload) cut (pieces_of (map Make cuts))
    ∙ ap (λ (xs : List ℕ). pieces_content at size payload cut ++ xs) (made-content at size payload cuts)

pub made-layout_part : (cuts : List (List Piece)) → map layout_part (map Make cuts) ≡ map layout.TheVariants.Make (map pieces_bytes cuts)
made-layout_part [] = refl
made-layout_part (cut ∷ cuts) = ap (λ (ps : List layout.Part). layout.TheVariants.Make (pieces_bytes cut) ∷ ps) (made-layout_part cuts)

pub made-from : (size : ℕ) (entries : List Pair) (given from : ℕ) (counts : List ℕ) (pieces : List Piece) → 0 < size →
    AllByRecursion (IsFrom size entries given) pieces →
    AllByRecursion (IsFrom size entries given) (pieces_of (map Make (stretches size from counts pieces)))
made-from size entries given from [] pieces some each = tt
made-from size entries given from (n ∷ ns) pieces some each =
    all-append (IsFrom size entries given) (stretch_of size from (from + n) pieces)
    (pieces_of (map Make (stretches size (from + n) ns pieces)))
    (stretch-from size entries given from (from + n) pieces some each)
    (made-from size entries given (from + n) ns pieces some each)

-- ---- lengths on runs

pub lengths-runs : (size bytes : ℕ) (runs : List Extent) →
    made_on (segments_on size bytes runs) ≡ map layout.TheVariants.Make (lengths_on size bytes (map (λ run. run.pages) runs))
lengths-runs size bytes [] = refl
lengths-runs size bytes (run ∷ runs) = ap (λ (ps : List layout.Part). layout.TheVariants.Make
    (min bytes (run.pages * size)) ∷ ps) (lengths-runs size (bytes - run.pages * size) runs)

pub lengths-total : (size bytes : ℕ) (pages : List ℕ) → total (lengths_on size bytes pages) ≡ min bytes (sum pages * size)
lengths-total size bytes [] = let none : 0 ≡ min bytes (0 * size) = omega arith in none
lengths-total size bytes (n ∷ ns) =
    let here = sum_by-cons (λ (k : ℕ). k) (min bytes (n * size)) (lengths_on size (bytes - n * size) ns) in
    let more = lengths-total size (bytes - n * size) ns in
    let rows : (n + sum ns) * size ≡ n * size + sum ns * size = add-mul n (sum ns) size in
    let all : sum (n ∷ ns) ≡ n + sum ns = sum_by-cons (λ (k : ℕ). k) n ns in
    let same : sum (n ∷ ns) * size ≡ (n + sum ns) * size = ap (λ (k : ℕ). k * size) all in
    omega (arith, here, more, rows, same)
