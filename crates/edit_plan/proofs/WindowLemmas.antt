-- What code reads of a window at a spot.
use Rattle.std.proofs.Common.{◌≡◌, ℕ, ◌+◌, ◌-◌, ◌<◌, ◌≤◌, List, [], ◌∷◌, length, take, drop, get_or, refl}
use Rattle.std.proofs.Common.{sym, ap, arith, ◌∙◌, ◌⊎◌, inl, inr}
use Rattle.std.specs.Prelude.{Option, Some, None, option_to_list}
use Rattle.std.proofs.lemmas.List.{drop_all, drop-take}
use Rattle.tree_model.specs.declared.entry.Pair.{Pair}
use Rattle.tree_model.specs.declared.entry.Placed.{Placed}
use Rattle.tree_model.specs.Range.{pairs_of}
use Rattle.tree_model.specs.Tree.{bytes_of, page_count}
use Rattle.tree_model.proofs.RangeLemmas.{no_segment, next-pair}
use Rattle.layout_model.specs.Parts.{count_begun, count_ended, left_of, right_of, without_pages}
use Rattle.content_laws.specs.Spelling.{HaveBytes}
use Rattle.window_laws.proofs.CountLemmas.{count_begun-start}
use Rattle.edit_parts.specs.declared.piece.Piece.TheVariants.{Given}
use Rattle.edit_plan.specs.declared.back.Back.{Back}
use Rattle.edit_plan.specs.Spots.{IsBack, IsSpot, head_in, head_piece}
use Rattle.edit_plan.proofs.SpotLemmas.{AtInside, at-border, at-inside, next-bytes, pairs-length}
use Rattle.edit_plan.proofs.SpotLemmas.{spot-begun, spot-behind, spot-left, spot-within}

-- ---- the way to the spot

-- so far a place lies behind the first segments
pub record IsFar (window : List Placed) (place ended inside : ℕ) : Type 0 where
  pub sum : bytes_of (take ended (pairs_of window)) + inside ≡ place
  pub count : count_ended place (pairs_of window) ≡ ended + count_ended inside (drop ended (pairs_of window))

pub far-next : (window : List Placed) (place ended inside : ℕ) → IsFar window place ended inside → ended < length window →
    (get_or window ended no_segment).pair.bytes ≤ inside →
    IsFar window place (ended + 1) (inside - (get_or window ended no_segment).pair.bytes)
far-next window place ended inside far less behind =
    let p = (get_or window ended no_segment).pair in
    let bytes = next-bytes window ended less in
    let sum = far.sum in
    let count = far.count in
    let here = ap (count_ended inside) (next-pair window ended less) in
    let step = spot-behind inside p (drop (ended + 1) (pairs_of window)) behind in
    record {
      sum = omega (arith, bytes, sum, behind);
      count = omega (arith, count, here, step);
    }

pub far-here : (window : List Placed) (place ended inside : ℕ) → IsFar window place ended inside → ended < length window →
    inside < (get_or window ended no_segment).pair.bytes → IsSpot place (pairs_of window) ended inside
far-here window place ended inside far less within =
    let p = (get_or window ended no_segment).pair in
    let count = far.count in
    let here = ap (count_ended inside) (next-pair window ended less) in
    let none = spot-within inside p (drop (ended + 1) (pairs_of window)) within in
    record { count = omega (arith, count, here, none); sum = far.sum }

-- ---- one segment

pub pair-some : (window : List Placed) (number : ℕ) → number < length window →
    take 1 (drop number (pairs_of window)) ≡ (get_or window number no_segment).pair ∷ []
pair-some window number less = ap (take 1) (next-pair window number less)

pub pair-none : (window : List Placed) (number : ℕ) → length window ≤ number → take 1 (drop number (pairs_of window)) ≡ []
pair-none window number past =
    let long = pairs-length window in
    ap (take 1) (drop_all number (pairs_of window) (omega (arith, long, past)))

pub before-some : (window : List Placed) (ended : ℕ) → 0 < ended → ended ≤ length window →
    drop (ended - 1) (take ended (pairs_of window)) ≡ (get_or window (ended - 1) no_segment).pair ∷ []
before-some window ended some fits =
    let split : ended - 1 + 1 ≡ ended = omega (arith, some) in
    ap (λ (k : ℕ). drop (ended - 1) (take k (pairs_of window))) (sym split)
    ∙ (drop-take (ended - 1) 1 (pairs_of window) ∙ pair-some window (ended - 1) (omega (arith, some, fits)))

-- ---- what is left

pub left-none : (window : List Placed) (place ended inside : ℕ) → HaveBytes (pairs_of window) →
    IsSpot place (pairs_of window) ended inside →
    (inside ≡ 0) ⊎ (length window ≤ ended) → left_of place (pairs_of window) ≡ []
left-none window place ended inside have spot why =
    let past = spot-left 1 place ended inside (pairs_of window) have spot in
    let long = pairs-length window in
    past.left ∙ (elim why [
      | inr end ↦ ap (left_of inside) (drop_all ended (pairs_of window) (omega (arith, long, end)))
      | inl none ↦ ap (λ (k : ℕ). left_of k (drop ended (pairs_of window))) none
          ∙ border (drop ended (pairs_of window))
          (sym (ap (λ (k : ℕ). count_ended k (drop ended (pairs_of window))) none) ∙ past.none)
    ])
  where
    border : (behind : List Pair) → count_ended 0 behind ≡ 0 → left_of 0 behind ≡ []
    border [] none = refl
    border (p ∷ ps) none = (at-border 1 p ps none).left

pub left-some : (window : List Placed) (place ended inside : ℕ) → HaveBytes (pairs_of window) →
    IsSpot place (pairs_of window) ended inside →
    0 < inside → ended < length window →
    left_of place (pairs_of window) ≡ record { bytes = inside; page = (get_or window ended no_segment).pair.page } ∷ []
left-some window place ended inside have spot some less =
    let past = spot-left 1 place ended inside (pairs_of window) have spot in
    let next = next-pair window ended less in
    let none = sym (ap (count_ended inside) next) ∙ past.none in
    let here = at-inside 1 inside (get_or window ended no_segment).pair (drop (ended + 1) (pairs_of window)) some none in
    past.left ∙ (ap (left_of inside) next ∙ here.left)

-- ---- behind the place

-- what is kept behind a border of segments
abbrev pub whole : Option Pair → Back
whole after = record { head = Given 0 0; right = None; after = after }

pub back-end : (size : ℕ) (window : List Placed) (place ended inside : ℕ) → HaveBytes (pairs_of window) →
    IsSpot place (pairs_of window) ended inside → length window ≤ ended → IsBack size place (pairs_of window) (whole None)
back-end size window place ended inside have spot end =
    let past = spot-left size place ended inside (pairs_of window) have spot in
    let long = pairs-length window in
    let nothing = drop_all ended (pairs_of window) (omega (arith, long, end)) in
    let begun = spot-begun place ended inside (pairs_of window) have spot in
    let none : count_begun inside [] ≡ 0 = refl in
    let here = ap (count_begun inside) nothing in
    let count : count_begun place (pairs_of window) ≡ ended = omega (arith, begun, here, none) in
    record {
      head_is = sym (past.head ∙ ap (head_piece size inside) nothing);
      right_is = sym (past.right ∙ ap (right_of size inside) nothing);
      after_is = sym (ap (λ (k : ℕ). take 1 (drop k (pairs_of window))) count ∙ pair-none window ended end);
    }

pub back-border : (size : ℕ) (window : List Placed) (place ended inside : ℕ) → HaveBytes (pairs_of window) →
    IsSpot place (pairs_of window) ended inside → ended < length window → inside ≡ 0 →
    IsBack size place (pairs_of window) (whole (Some (get_or window ended no_segment).pair))
back-border size window place ended inside have spot less start =
    let p = (get_or window ended no_segment).pair in
    let ps = drop (ended + 1) (pairs_of window) in
    let past = spot-left size place ended inside (pairs_of window) have spot in
    let next = next-pair window ended less in
    let none : count_ended 0 (p ∷ ps) ≡ 0 = sym (ap (λ (k : ℕ). count_ended k (p ∷ ps)) start)
    ∙ (sym (ap (count_ended inside) next) ∙ past.none) in
    let here = at-border size p ps none in
    let begun = spot-begun place ended inside (pairs_of window) have spot in
    let first = ap (λ (k : ℕ). count_begun k (drop ended (pairs_of window))) start in
    let zero_begun = count_begun-start (drop ended (pairs_of window)) in
    let count : count_begun place (pairs_of window) ≡ ended = omega (arith, begun, first, zero_begun) in
    record {
      head_is =
          sym (past.head ∙ (ap (head_piece size inside) next ∙ (ap (λ (k : ℕ). head_piece size k (p ∷ ps)) start ∙ here.head)));
      right_is =
          sym (past.right ∙ (ap (right_of size inside) next ∙ (ap (λ (k : ℕ). right_of size k (p ∷ ps)) start ∙ here.right)));
      after_is = sym (ap (λ (k : ℕ). take 1 (drop k (pairs_of window))) count ∙ pair-some window ended less);
    }

-- a place inside a segment
pub spot-inside : (size : ℕ) (window : List Placed) (place ended inside : ℕ) → HaveBytes (pairs_of window) →
    IsSpot place (pairs_of window) ended inside → ended < length window → 0 < inside →
    AtInside size inside (get_or window ended no_segment).pair (drop (ended + 1) (pairs_of window))
spot-inside size window place ended inside have spot less some =
    let p = (get_or window ended no_segment).pair in
    let ps = drop (ended + 1) (pairs_of window) in
    let past = spot-left size place ended inside (pairs_of window) have spot in
    let none : count_ended inside (p ∷ ps) ≡ 0 = sym (ap (count_ended inside) (next-pair window ended less)) ∙ past.none in
    at-inside size inside p ps some none

pub back-inside : (size : ℕ) (window : List Placed) (place ended inside : ℕ) (found : Back) → HaveBytes (pairs_of window) →
    IsSpot place (pairs_of window) ended inside → ended < length window → 0 < inside →
    found.head ≡ head_in size inside (get_or window ended no_segment).pair →
    option_to_list found.right ≡ without_pages size (page_count size inside) (get_or window ended no_segment).pair →
    option_to_list found.after ≡ take 1 (drop (ended + 1) (pairs_of window)) → IsBack size place (pairs_of window) found
back-inside size window place ended inside found have spot less some head right after =
    let p = (get_or window ended no_segment).pair in
    let ps = drop (ended + 1) (pairs_of window) in
    let past = spot-left size place ended inside (pairs_of window) have spot in
    let next = next-pair window ended less in
    let here = spot-inside size window place ended inside have spot less some in
    let begun = spot-begun place ended inside (pairs_of window) have spot in
    let first = ap (count_begun inside) next in
    let one = here.begun in
    let count : count_begun place (pairs_of window) ≡ ended + 1 = omega (arith, begun, first, one) in
    record {
      head_is = head ∙ sym (past.head ∙ (ap (head_piece size inside) next ∙ here.head));
      right_is = right ∙ sym (past.right ∙ (ap (right_of size inside) next ∙ here.right));
      after_is = after ∙ sym (ap (λ (k : ℕ). take 1 (drop k (pairs_of window))) count);
    }
