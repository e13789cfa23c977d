-- What a place leaves of a window, told by the spot that it lies at.
use Rattle.std.proofs.Common.{◌≡◌, ℕ, zero, suc, ◌+◌, ◌-◌, ◌*◌, ◌/◌, ◌%◌, ◌<◌, ◌≤◌, min, true, false, List, [], ◌∷◌}
use Rattle.std.proofs.Common.{length, take, drop, get_or, refl, sym, ap, subst, arith, ◌∙◌, inl, inr}
use Rattle.std.proofs.Common.{nat_eq}
use Rattle.std.specs.Prelude.{nat_le}
use Rattle.std.specs.List.{AllByRecursion}
use Rattle.std.proofs.lemmas.Bool.{cases_Bool, leb-true, leb-false, le-leb, ne_eqb}
use Rattle.std.proofs.lemmas.Nat.{div-add-mod', mod_below}
use Rattle.std.proofs.lemmas.List.{length-map}
use Rattle.std.proofs.lemmas.List.Sums.{sum_by-cons}
use Rattle.tree_model.specs.declared.entry.Pair.{Pair}
use Rattle.tree_model.specs.declared.entry.Placed.{Placed}
use Rattle.tree_model.specs.Range.{pairs_of}
use Rattle.tree_model.specs.Tree.{bytes_of, page_count}
use Rattle.tree_model.proofs.PageCountLaws.{count-none}
use Rattle.tree_model.proofs.RangeLemmas.{no_segment, next-pair}
use Rattle.layout_model.specs.Parts.{count_begun, count_ended, head_of, left_of, right_of, without_pages}
use Rattle.content_laws.specs.Spelling.{HaveBytes}
use Rattle.content_laws.proofs.SideLemmas.{count_begun-more, count_ended-behind, count_ended-within}
use Rattle.content_laws.proofs.SideLemmas.{count_ended-within_list, head-behind, head-within, left-before, left-inside}
use Rattle.content_laws.proofs.SideLemmas.{lies, right-before, right-inside}
use Rattle.content_laws.proofs.SideLemmas.Lies.{Behind, Before, Inside}
use Rattle.window_laws.proofs.CountLemmas.{count_begun-start, is_behind}
use Rattle.edit_parts.specs.declared.piece.Piece.{Piece}
use Rattle.edit_parts.specs.declared.piece.Piece.TheVariants.{Old, Given}
use Rattle.edit_parts.specs.Pieces.{IsFrom, LiesIn, piece_bytes}
use Rattle.edit_plan.specs.Spots.{IsSpot, head_in, head_piece}

-- ---- one segment after the other

-- and so are the bytes of one more
pub next-bytes : (window : List Placed) (j : ℕ) → j < length window →
    bytes_of (take (j + 1) (pairs_of window)) ≡ bytes_of (take j (pairs_of window)) + (get_or window j no_segment).pair.bytes
next-bytes [] j less = absurd (omega (arith, less))
next-bytes (s ∷ ss) zero less =
    let one : 0 + 1 ≡ 1 = omega arith in
    let sum = sum_by-cons (λ (q : Pair). q.bytes) s.pair [] in
    let first : bytes_of (s.pair ∷ []) ≡ 0 + s.pair.bytes = omega (arith, sum) in
    ap (λ (k : ℕ). bytes_of (take k (s.pair ∷ pairs_of ss))) one ∙ first
next-bytes (s ∷ ss) (suc j) less =
    let long : suc j < suc (length ss) = less in
    let one : suc j + 1 ≡ suc (j + 1) = omega arith in
    let more = next-bytes ss j (omega (arith, long)) in
    let sum = sum_by-cons (λ (q : Pair). q.bytes) s.pair (take (j + 1) (pairs_of ss)) in
    let sum2 = sum_by-cons (λ (q : Pair). q.bytes) s.pair (take j (pairs_of ss)) in
    let here : bytes_of (s.pair ∷ take (j + 1) (pairs_of ss))
    ≡ bytes_of (s.pair ∷ take j (pairs_of ss)) + (get_or ss j no_segment).pair.bytes =
    omega (arith, more, sum, sum2) in
    ap (λ (k : ℕ). bytes_of (take k (s.pair ∷ pairs_of ss))) one ∙ here

-- and those of the rest are that one's and those behind it
pub rest-bytes : (window : List Placed) (j : ℕ) → j < length window →
    bytes_of (drop j (pairs_of window)) ≡ (get_or window j no_segment).pair.bytes + bytes_of (drop (j + 1) (pairs_of window))
rest-bytes window j less =
    let p = (get_or window j no_segment).pair in
    ap bytes_of (next-pair window j less) ∙ sum_by-cons (λ (q : Pair). q.bytes) p (drop (j + 1) (pairs_of window))

pub pairs-length : (window : List Placed) → length (pairs_of window) ≡ length window
pairs-length window = length-map window (λ (s : Placed). s.pair)

-- what holds of each segment's pair holds of the j-th
pub each-pair : (P : Pair → Type 0) (window : List Placed) (j : ℕ) → AllByRecursion P (pairs_of window) →
    j < length window → P (get_or window j no_segment).pair
each-pair P [] j all less = absurd (omega (arith, less))
each-pair P (s ∷ ss) zero all less = all.0
each-pair P (s ∷ ss) (suc j) all less = let long : suc j < suc (length ss) = less in each-pair P ss j all.1 (omega (arith, long))

-- the first segment, where the place lies behind it or before its end
pub spot-behind : (place : ℕ) (p : Pair) (ps : List Pair) → p.bytes ≤ place →
    count_ended place (p ∷ ps) ≡ suc (count_ended (place - p.bytes) ps)
spot-behind place p ps le = count_ended-behind place p ps (le-leb p.bytes place le)

pub spot-within : (place : ℕ) (p : Pair) (ps : List Pair) → place < p.bytes → count_ended place (p ∷ ps) ≡ 0
spot-within place p ps less =
    elim (cases_Bool (nat_le p.bytes place)) [
      | inl h ↦ let behind = leb-true p.bytes place h in absurd (omega (arith, behind, less))
      | inr h ↦ count_ended-within place p ps h
    ]

-- ---- what is left at a spot

-- what a place leaves of the entries is what is left of those behind the ended ones
pub record IsLeft (size place inside : ℕ) (entries behind : List Pair) : Type 0 where
  pub left : left_of place entries ≡ left_of inside behind
  pub right : right_of size place entries ≡ right_of size inside behind
  pub head : head_piece size place entries ≡ head_piece size inside behind
  pub none : count_ended inside behind ≡ 0

pub head_piece-behind : (size at : ℕ) (p : Pair) (ps : List Pair) → nat_le p.bytes at ≡ true →
    head_piece size at (p ∷ ps) ≡ head_piece size (at - p.bytes) ps
head_piece-behind size at p ps h = rw (h, head_piece)

pub head_piece-before : (size at : ℕ) (p : Pair) (ps : List Pair) → nat_le p.bytes at ≡ false → nat_eq at 0 ≡ true →
    head_piece size at (p ∷ ps) ≡ Given 0 0
head_piece-before size at p ps h k = rw (h, k, head_piece)

pub head_piece-inside : (size at : ℕ) (p : Pair) (ps : List Pair) → nat_le p.bytes at ≡ false → nat_eq at 0 ≡ false →
    head_piece size at (p ∷ ps) ≡ head_in size at p
head_piece-inside size at p ps h k = rw (h, k, head_piece)

head_piece-drop : (size k at : ℕ) (entries : List Pair) → k ≤ count_ended at entries →
    head_piece size at entries ≡ head_piece size (at - bytes_of (take k entries)) (drop k entries)
head_piece-drop size zero at entries few = let same : at ≡ at - 0 = omega arith in ap (λ (j : ℕ). head_piece size j entries) same
head_piece-drop size (suc k) at [] few = let none : suc k ≤ 0 = few in absurd (omega (arith, none))
head_piece-drop size (suc k) at (p ∷ ps) few =
    elim (cases_Bool (nat_le p.bytes at)) [
      | inr h ↦ let none = count_ended-within at p ps h in absurd (omega (arith, none, few))
      | inl h ↦
          let step = count_ended-behind at p ps h in
          let sum = sum_by-cons (λ (q : Pair). q.bytes) p (take k ps) in
          let far : at - p.bytes - bytes_of (take k ps) ≡ at - bytes_of (p ∷ take k ps) = omega (arith, sum) in
          head_piece-behind size at p ps h
          ∙ (head_piece-drop size k (at - p.bytes) ps (omega (arith, step, few)) ∙ ap (λ (j : ℕ). head_piece size j (drop k ps)) far)
    ]

pub spot-left : (size place ended inside : ℕ) (entries : List Pair) → HaveBytes entries → IsSpot place entries ended inside →
    IsLeft size place inside entries (drop ended entries)
spot-left size place ended inside entries have spot =
    let count = spot.count in
    let sum = spot.sum in
    let long = count_ended-within_list place entries in
    let past = is_behind size place ended entries have (omega (arith, count, long)) (omega (arith, sum)) in
    let same : place - bytes_of (take ended entries) ≡ inside = omega (arith, sum) in
    let behind = drop ended entries in
    let ended2 = past.ended in
    let ended3 = ap (λ (j : ℕ). count_ended j behind) same in
    record {
      left = past.left ∙ ap (λ (j : ℕ). left_of j behind) same;
      right = past.right ∙ ap (λ (j : ℕ). right_of size j behind) same;
      head = head_piece-drop size ended place entries (omega (arith, count)) ∙ ap (λ (j : ℕ). head_piece size j behind) same;
      none = omega (arith, count, ended2, ended3);
    }

-- as many begin before the place as end at it or before it, and one more where it lies inside one
pub spot-begun : (place ended inside : ℕ) (entries : List Pair) → HaveBytes entries → IsSpot place entries ended inside →
    count_begun place entries ≡ ended + count_begun inside (drop ended entries)
spot-begun place ended inside entries have spot =
    let count = spot.count in
    let sum = spot.sum in
    let long = count_ended-within_list place entries in
    let past = is_behind 1 place ended entries have (omega (arith, count, long)) (omega (arith, sum)) in
    let same : place - bytes_of (take ended entries) ≡ inside = omega (arith, sum) in
    past.begun ∙ ap (λ (j : ℕ). ended + count_begun j (drop ended entries)) same

-- where none ends, the place lies before the end of the first
none-within : (inside : ℕ) (p : Pair) (ps : List Pair) → count_ended inside (p ∷ ps) ≡ 0 → nat_le p.bytes inside ≡ false
none-within inside p ps none =
    elim (cases_Bool (nat_le p.bytes inside)) [
      | inr h ↦ h
      | inl h ↦ let step = count_ended-behind inside p ps h in absurd (omega (arith, step, none))
    ]

pub record AtBorder (size : ℕ) (p : Pair) (ps : List Pair) : Type 0 where
  pub left : left_of 0 (p ∷ ps) ≡ []
  pub right : right_of size 0 (p ∷ ps) ≡ []
  pub head : head_piece size 0 (p ∷ ps) ≡ Given 0 0

pub at-border : (size : ℕ) (p : Pair) (ps : List Pair) → count_ended 0 (p ∷ ps) ≡ 0 → AtBorder size p ps
at-border size p ps none =
    let h = none-within 0 p ps none in
    record {
      left = left-before 0 p ps h refl;
      right = right-before size 0 p ps h refl;
      head = head_piece-before size 0 p ps h refl;
    }

pub record AtInside (size inside : ℕ) (p : Pair) (ps : List Pair) : Type 0 where
  pub less : inside < p.bytes
  pub left : left_of inside (p ∷ ps) ≡ record { bytes = inside; page = p.page } ∷ []
  pub right : right_of size inside (p ∷ ps) ≡ without_pages size (page_count size inside) p
  pub head : head_piece size inside (p ∷ ps) ≡ head_in size inside p
  pub begun : count_begun inside (p ∷ ps) ≡ 1

pub at-inside : (size inside : ℕ) (p : Pair) (ps : List Pair) → 0 < inside → count_ended inside (p ∷ ps) ≡ 0 → AtInside size inside p ps
at-inside size inside p ps some none =
    let h = none-within inside p ps none in
    let k : nat_eq inside 0 ≡ false = ne_eqb inside 0 (λ zero_is. omega (arith, zero_is, some)) in
    let less = leb-false p.bytes inside h in
    let spent : inside - p.bytes ≡ 0 = omega (arith, less) in
    let rest : count_begun (inside - p.bytes) ps ≡ 0 = ap (λ (j : ℕ). count_begun j ps) spent ∙ count_begun-start ps in
    record {
      less = less;
      left = left-inside inside p ps h k;
      right = right-inside size inside p ps h k;
      head = head_piece-inside size inside p ps h k;
      begun = count_begun-more inside p ps k ∙ ap suc rest;
    }

-- ---- the head

pub head-bytes : (size at : ℕ) (entries : List Pair) → 0 < size → piece_bytes (head_piece size at entries) ≡ head_of size at entries
head-bytes size at [] some = refl
head-bytes size at (p ∷ ps) some =
    elim (lies at p) [
      | Behind h le ↦
          ap piece_bytes (head_piece-behind size at p ps h) ∙ (head-bytes size (at - p.bytes) ps some ∙ sym (head-behind size at p ps h))
      | Before h k none byte ↦
          let no_page : page_count size at ≡ 0 = ap (page_count size) none ∙ count-none size some in
          let rows : page_count size at * size ≡ 0 * size = ap (λ (j : ℕ). j * size) no_page in
          let nothing : 0 ≡ min (page_count size at * size) p.bytes - at = omega (arith, rows) in
          ap piece_bytes (head_piece-before size at p ps h k) ∙ (nothing ∙ sym (head-within size at p ps h))
      | Inside h k byte less ↦ ap piece_bytes (head_piece-inside size at p ps h k) ∙ sym (head-within size at p ps h)
    ]

-- it lies in the entry that the place lies inside
pub head_in-lies : (size at : ℕ) (p : Pair) → 0 < size → at < p.bytes →
    LiesIn size p (p.page + at / size) (at % size) (min (page_count size at * size) p.bytes - at)
head_in-lies size at p some less =
    let whole = div-add-mod' at size in
    let moved : p.page + at / size - p.page ≡ at / size = omega arith in
    let rows : (p.page + at / size - p.page) * size ≡ at / size * size = ap (λ (j : ℕ). j * size) moved in
    record {
      start = mod_below at size some;
      first = omega arith;
      last = omega (arith, whole, rows, less);
    }

from-behind : (size given : ℕ) (p : Pair) (ps : List Pair) (piece : Piece) → IsFrom size ps given piece → IsFrom size (p ∷ ps) given piece
from-behind size given p ps (Old page skip bytes) from = inr from
from-behind size given p ps (Given place bytes) from = from

pub head-from : (size given at : ℕ) (entries : List Pair) → 0 < size → IsFrom size entries given (head_piece size at entries)
head-from size given at [] some = let none : 0 + 0 ≤ given = omega arith in none
head-from size given at (p ∷ ps) some =
    let P : Piece → Type 0 = IsFrom size (p ∷ ps) given in
    elim (lies at p) [
      | Behind h le ↦ subst P (sym (head_piece-behind size at p ps h))
          (from-behind size given p ps (head_piece size (at - p.bytes) ps)
          (head-from size given (at - p.bytes) ps some))
      | Before h k none byte ↦ let nothing : 0 + 0 ≤ given = omega arith in subst P (sym (head_piece-before size at p ps h k)) nothing
      | Inside h k byte less ↦ subst P (sym (head_piece-inside size at p ps h k)) (inl (head_in-lies size at p some less))
    ]
