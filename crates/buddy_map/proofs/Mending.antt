-- After a change of a run the masks of the parts that have some of it are mended, row by row.
use Rattle.std.proofs.Common.{inl, inr, ◌≡◌, ℕ, suc, ◌+◌, ◌*◌, ◌-◌, ◌/◌, ◌%◌, ◌^◌, ◌<◌, ◌≤◌, Bool, List, length, sym, ap, ◌∙◌}
use Rattle.std.proofs.Common.{subst, arith}
use Rattle.std.proofs.Math.Nat.{pow-succ', mul-le-mul_right}
use Rattle.std.proofs.Math.Pow.{pow_mono}
use Rattle.std.proofs.lemmas.Bool.{cases_eq, cases_lt}
use Rattle.std.proofs.lemmas.Nat.{pow_pos, pow-add, shr-shr, shr_split, shr_le, mod_below, div_below, le-div}
use Rattle.std.specs.Prelude.{◌⊎◌, slice_index, if◌then◌else◌}
use Rattle.block_model.specs.Block.{has_page, with_run}
use Rattle.block_model.proofs.Changes.{with_run-below, with_run-above}
use Rattle.buddy_map.specs.Tree.{joined_mask, mask_of, AreMasks, IsAside, IsMended}
use Rattle.buddy_map.proofs.Meaning.{mask_of-page, mask_of-halves, mask_of-same, twice_pow}

-- ---- parts beside a run

-- a part beside the run has pages before it or behind it
away : (first n j q page : ℕ) → 1 ≤ n → IsAside first n j q → q * 2 ^ j ≤ page → page < q * 2 ^ j + 2 ^ j →
    (page < first) ⊎ (first + n ≤ page)
away first n j q page some (inl low) from to =
    let split : first / 2 ^ j * 2 ^ j + first % 2 ^ j ≡ first = shr_split first j in
    let fits : (q + 1) * 2 ^ j ≤ first / 2 ^ j * 2 ^ j = mul-le-mul_right (2 ^ j) (omega arith) in inl (omega arith)
away first n j q page some (inr high) from to =
    let last = first + n - 1 in
    let split : last / 2 ^ j * 2 ^ j + last % 2 ^ j ≡ last = shr_split last j in
    let rest : last % 2 ^ j < 2 ^ j = mod_below last (2 ^ j) (pow_pos j) in
    let fits : (last / 2 ^ j + 1) * 2 ^ j ≤ q * 2 ^ j = mul-le-mul_right (2 ^ j) (omega arith) in inr (omega arith)

-- a change of the run leaves the masks of the parts beside it
pub mended_from : (free : List Bool) (whole first n : ℕ) (is_in : Bool) (masks : List ℕ) → 1 ≤ n → first + n ≤ length free →
    AreMasks free whole masks → IsMended (with_run free first n is_in) whole first n 0 masks
mended_from free whole first n is_in masks some fits tree = record { size = tree.size; each = each }
  where
    same : (page : ℕ) → (page < first) ⊎ (first + n ≤ page) → has_page (with_run free first n is_in) page ≡ has_page free page
    same page (inl before) = with_run-below free first n is_in page fits before
    same page (inr behind) = with_run-above free first n is_in page fits behind

    each : (depth number : ℕ) → depth ≤ whole → number < 2 ^ depth → (whole - depth < 0) ⊎ IsAside first n (whole - depth) number →
        slice_index masks (2 ^ depth + number) ≡ mask_of (with_run free first n is_in) (whole - depth) number
    each depth number small few (inl less) = absurd (omega arith)
    each depth number small few (inr aside) =
        tree.each depth number small few
        ∙ sym (mask_of-same free (with_run free first n is_in) (whole - depth) number
        (λ page low high. same page (away first n (whole - depth) number page some aside low high)))

whole_pow : (whole depth : ℕ) → depth ≤ whole → 2 ^ depth * 2 ^ (whole - depth) ≡ 2 ^ whole
whole_pow whole depth fits =
    let all : depth + (whole - depth) ≡ whole = omega arith in
    sym (pow-add 2 depth (whole - depth)) ∙ ap (λ (k : ℕ). 2 ^ k) all

-- no part is beside the whole space
pub mended_new : (free : List Bool) (whole : ℕ) (masks : List ℕ) → length masks ≡ 2 * 2 ^ whole →
    IsMended free whole 0 (2 ^ whole) 0 masks
mended_new free whole masks size = record { size = size; each = each }
  where
    each : (depth number : ℕ) → depth ≤ whole → number < 2 ^ depth → (whole - depth < 0) ⊎ IsAside 0 (2 ^ whole) (whole - depth) number →
        slice_index masks (2 ^ depth + number) ≡ mask_of free (whole - depth) number
    each depth number fits few (inl less) = absurd (omega arith)
    each depth number fits few (inr (inl low)) = absurd (omega (arith, shr_le 0 (whole - depth)))
    each depth number fits few (inr (inr high)) =
        let room : (number + 1) * 2 ^ (whole - depth) ≤ 2 ^ depth * 2 ^ (whole - depth) =
        mul-le-mul_right (2 ^ (whole - depth)) (omega arith) in
        let last : number ≤ (0 + 2 ^ whole - 1) / 2 ^ (whole - depth) =
        le-div number (0 + 2 ^ whole - 1) (2 ^ (whole - depth)) (pow_pos (whole - depth))
        (omega (arith, room, whole_pow whole depth fits, pow_pos (whole - depth))) in
        absurd (omega arith)

pub all_mended : (free : List Bool) (whole first n order : ℕ) (masks : List ℕ) → whole ≤ 14 → length free ≡ 2 ^ whole → whole < order →
    IsMended free whole first n order masks → AreMasks free whole masks
all_mended free whole first n order masks small pages more m = record {
  small = small;
  pages = pages;
  size = m.size;
  each = λ depth number fits few. m.each depth number fits few (inl (omega arith));
}

-- ---- rows

-- the parts of a row, of 2 ^ order pages each, that have pages of the run go from `low` to `high`
pub record IsRow (whole first n order low high : ℕ) : Type 0 where
  pub low_is : low ≡ 2 ^ (whole - order) + first / 2 ^ order
  pub high_is : high ≡ 2 ^ (whole - order) + (first + n - 1) / 2 ^ order

pub row_of_pages : (whole first n low high : ℕ) → 1 ≤ n → low ≡ 2 ^ whole + first → high ≡ low + n - 1 → IsRow whole first n 0 low high
row_of_pages whole first n low high some from to =
    let all : 2 ^ (whole - 0) ≡ 2 ^ whole = ap (λ (k : ℕ). 2 ^ k) (omega arith) in record {
      low_is = omega (arith, all);
      high_is = omega (arith, all);
    }

twice : (whole order : ℕ) → order < whole → 2 ^ (whole - order) ≡ 2 * 2 ^ (whole - (order + 1))
twice whole order less =
    let up : whole - order ≡ suc (whole - (order + 1)) = omega arith in
    ap (λ (k : ℕ). 2 ^ k) up ∙ pow-succ' 2 (whole - (order + 1))

one_up : (page order : ℕ) → page / 2 ^ order / 2 ≡ page / 2 ^ (order + 1)
one_up page order = shr-shr page order 1

pub row_up : (whole first n order low high : ℕ) → order < whole → IsRow whole first n order low high →
    IsRow whole first n (order + 1) (low / 2) (high / 2)
row_up whole first n order low high less row = record {
  low_is = omega (arith, row.low_is, twice whole order less, one_up first order);
  high_is = omega (arith, row.high_is, twice whole order less, one_up (first + n - 1) order);
}

last_below : (whole first n order : ℕ) → order ≤ whole → 1 ≤ n → first + n ≤ 2 ^ whole →
    (first + n - 1) / 2 ^ order < 2 ^ (whole - order)
last_below whole first n order fits some within =
    let all : (whole - order) + order ≡ whole = omega arith in
    let pow : 2 ^ (whole - order) * 2 ^ order ≡ 2 ^ whole = sym (pow-add 2 (whole - order) order) ∙ ap (λ (k : ℕ). 2 ^ k) all in
    div_below (first + n - 1) (2 ^ order) (2 ^ (whole - order)) (pow_pos order) (omega (arith, pow))

-- what `mend_row` is called with
pub record FitsRow (low high count : ℕ) : Type 0 where
  pub some : low ≤ high
  pub apart : high < 2 * low
  pub within : 2 * high + 1 < count

pub fits_row : (whole first n order low high : ℕ) → order ≤ whole → 1 ≤ order → 1 ≤ n → first + n ≤ 2 ^ whole →
    IsRow whole first n order low high → FitsRow low high (2 * 2 ^ whole)
fits_row whole first n order low high fits up some within row =
    let last = last_below whole first n order fits some within in
    let half : 2 ^ (whole - order + 1) ≤ 2 ^ whole = pow_mono (omega arith) in
    let more : 2 ^ (whole - order + 1) ≡ 2 * 2 ^ (whole - order) = twice_pow (whole - order) in
    let split : first / 2 ^ order * 2 ^ order + first % 2 ^ order ≡ first = shr_split first order in
    let rising : first / 2 ^ order ≤ (first + n - 1) / 2 ^ order =
    le-div (first / 2 ^ order) (first + n - 1) (2 ^ order) (pow_pos order) (omega (arith, split)) in record {
      some = omega (arith, row.low_is, row.high_is, rising);
      apart = omega (arith, row.low_is, row.high_is, last);
      within = omega (arith, row.high_is, last, half, more);
    }

-- a row was mended: from the masks of the row below
pub record IsRowMended (half low high : ℕ) (old new : List ℕ) : Type 0 where
  pub size : length new ≡ length old
  pub mended : (x : ℕ) → low ≤ x → x ≤ high → slice_index new x ≡ joined_mask half (slice_index old (2 * x)) (slice_index old (2 * x + 1))
  pub beside : (x : ℕ) → (x < low) ⊎ (high < x) → slice_index new x ≡ slice_index old x

pub mended_row : (free : List Bool) (whole first n order low high : ℕ) (old new : List ℕ) → order < whole → 1 ≤ n →
    first + n ≤ 2 ^ whole → IsRow whole first n (order + 1) low high → IsMended free whole first n (order + 1) old →
    IsRowMended (2 ^ order) low high old new → IsMended free whole first n (order + 2) new
mended_row free whole first n order low high old new less some within row m r = record { size = r.size ∙ m.size; each = each }
  where
    -- a row below
    below : (depth number : ℕ) → depth ≤ whole → number < 2 ^ depth → whole - depth < order + 1 →
        slice_index new (2 ^ depth + number) ≡ mask_of free (whole - depth) number
    below depth number fits few low_order =
        let deep : 2 ^ (whole - (order + 1) + 1) ≤ 2 ^ depth = pow_mono (omega arith) in
        let more : 2 ^ (whole - (order + 1) + 1) ≡ 2 * 2 ^ (whole - (order + 1)) = twice_pow (whole - (order + 1)) in
        let last = last_below whole first n (order + 1) (omega arith) some within in
        r.beside (2 ^ depth + number) (inr (omega (arith, row.high_is, last, deep, more)))
        ∙ m.each depth number fits few (inl low_order)

    -- the row itself
    here : (number : ℕ) → number < 2 ^ (whole - (order + 1)) → low ≤ 2 ^ (whole - (order + 1)) + number →
        2 ^ (whole - (order + 1)) + number ≤ high → slice_index new (2 ^ (whole - (order + 1)) + number) ≡ mask_of free (suc order) number
    here number few from to =
        let depth = whole - (order + 1) in
        let more : 2 ^ suc depth ≡ 2 * 2 ^ depth = pow-succ' 2 depth in
        let level : whole - suc depth ≡ order = omega arith in
        let left_at : 2 * (2 ^ depth + number) ≡ 2 ^ suc depth + 2 * number = omega (arith, more) in
        let right_at : 2 * (2 ^ depth + number) + 1 ≡ 2 ^ suc depth + (2 * number + 1) = omega (arith, more) in
        let left : slice_index old (2 * (2 ^ depth + number)) ≡ mask_of free order (2 * number) =
        ap (λ (x : ℕ). slice_index old x) left_at
        ∙ m.each (suc depth) (2 * number) (omega arith) (omega (arith, more)) (inl (omega arith))
        ∙ ap (λ (j : ℕ). mask_of free j (2 * number)) level in
        let right : slice_index old (2 * (2 ^ depth + number) + 1) ≡ mask_of free order (2 * number + 1) =
        ap (λ (x : ℕ). slice_index old x) right_at
        ∙ m.each (suc depth) (2 * number + 1) (omega arith) (omega (arith, more)) (inl (omega arith))
        ∙ ap (λ (j : ℕ). mask_of free j (2 * number + 1)) level in
        r.mended (2 ^ depth + number) from to
        ∙ ap (λ (x : ℕ). joined_mask (2 ^ order) x (slice_index old (2 * (2 ^ depth + number) + 1))) left
        ∙ ap (λ (x : ℕ). joined_mask (2 ^ order) (mask_of free order (2 * number)) x) right ∙ sym (mask_of-halves free order number)

    in_row : (depth number : ℕ) → depth ≡ whole - (order + 1) → number < 2 ^ depth → low ≤ 2 ^ depth + number →
        2 ^ depth + number ≤ high → slice_index new (2 ^ depth + number) ≡ mask_of free (whole - depth) number
    in_row depth number e few from to =
        let level : suc order ≡ whole - depth = omega arith in
        let same : 2 ^ depth ≡ 2 ^ (whole - (order + 1)) = ap (λ (d : ℕ). 2 ^ d) e in
        ap (λ (x : ℕ). slice_index new (x + number)) same
        ∙ here number (omega (arith, same)) (omega (arith, same)) (omega (arith, same))
        ∙ ap (λ (j : ℕ). mask_of free j number) level

    row_aside : (depth number : ℕ) → depth ≡ whole - (order + 1) → (2 ^ depth + number < low) ⊎ (high < 2 ^ depth + number) →
        IsAside first n (whole - depth) number
    row_aside depth number e out =
        let level : order + 1 ≡ whole - depth = omega arith in
        let same : 2 ^ depth ≡ 2 ^ (whole - (order + 1)) = ap (λ (d : ℕ). 2 ^ d) e in
        subst (λ (j : ℕ). IsAside first n j number) level (by_place out same)
      where
        by_place : (2 ^ depth + number < low) ⊎ (high < 2 ^ depth + number) → 2 ^ depth ≡ 2 ^ (whole - (order + 1)) →
            IsAside first n (order + 1) number
        by_place (inl before) same = inl (omega (arith, row.low_is, same))
        by_place (inr behind) same = inr (omega (arith, row.high_is, same))

    -- parts beside the run
    beside : (depth number : ℕ) → depth ≤ whole → number < 2 ^ depth → (2 ^ depth + number < low) ⊎ (high < 2 ^ depth + number) →
        IsAside first n (whole - depth) number → slice_index new (2 ^ depth + number) ≡ mask_of free (whole - depth) number
    beside depth number fits few out aside = r.beside (2 ^ depth + number) out ∙ m.each depth number fits few (inr aside)

    above_row : (depth number : ℕ) → depth < whole - (order + 1) → number < 2 ^ depth → 2 ^ depth + number < low
    above_row depth number up few =
        let more : 2 ^ (depth + 1) ≡ 2 * 2 ^ depth = twice_pow depth in
        let over : 2 ^ (depth + 1) ≤ 2 ^ (whole - (order + 1)) = pow_mono (omega arith) in
        omega (arith, more, over, row.low_is)

    only_aside : (depth number : ℕ) → order + 2 ≤ whole - depth → (whole - depth < order + 2) ⊎ IsAside first n (whole - depth) number →
        IsAside first n (whole - depth) number
    only_aside depth number up (inl small) = absurd (omega arith)
    only_aside depth number up (inr aside) = aside

    each : (depth number : ℕ) → depth ≤ whole → number < 2 ^ depth → (whole - depth < order + 2) ⊎ IsAside first n (whole - depth) number →
        slice_index new (2 ^ depth + number) ≡ mask_of free (whole - depth) number
    each depth number fits few known = elim (cases_lt (whole - depth) (order + 1)) [
      | inl deep ↦ below depth number fits few deep
      | inr high_up ↦ elim (cases_eq depth (whole - (order + 1))) [
        | inl e ↦ elim (cases_lt (2 ^ depth + number) low) [
          | inl before ↦ beside depth number fits few (inl before) (row_aside depth number e (inl before))
          | inr from ↦ elim (cases_lt high (2 ^ depth + number)) [
            | inl behind ↦ beside depth number fits few (inr behind) (row_aside depth number e (inr behind))
            | inr to ↦ in_row depth number e few from to
          ]
        ]
        | inr other ↦
            beside depth number fits few (inl (above_row depth number (omega arith) few)) (only_aside depth number (omega arith) known)
      ]
    ]

-- ---- the row of single pages

pub record ArePagesWritten (pages : List Bool) (first n : ℕ) (old new : List ℕ) : Type 0 where
  pub size : length new ≡ length old
  pub written : (page : ℕ) → first ≤ page → page < first + n →
      slice_index new (length pages + page) ≡ (if has_page pages page then 1 else 0)
  pub beside : (x : ℕ) → (x < length pages + first) ⊎ (length pages + (first + n) ≤ x) → slice_index new x ≡ slice_index old x

pub mended_pages : (free : List Bool) (whole first n : ℕ) (old new : List ℕ) → length free ≡ 2 ^ whole → 1 ≤ n →
    IsMended free whole first n 0 old → ArePagesWritten free first n old new → IsMended free whole first n 1 new
mended_pages free whole first n old new size some m w = record { size = w.size ∙ m.size; each = each }
  where
    page_here : (page : ℕ) → first ≤ page → page < first + n → (depth : ℕ) → depth ≡ whole →
        slice_index new (2 ^ depth + page) ≡ mask_of free (whole - depth) page
    page_here page from to depth e =
        let at : 2 ^ depth + page ≡ length free + page = omega (arith, size, ap (λ (d : ℕ). 2 ^ d) e) in
        let level : 0 ≡ whole - depth = omega arith in
        ap (λ (x : ℕ). slice_index new x) at ∙ w.written page from to ∙ sym (mask_of-page free page)
        ∙ ap (λ (j : ℕ). mask_of free j page) level

    page_aside : (page depth : ℕ) → depth ≡ whole → (page < first) ⊎ (first + n ≤ page) → IsAside first n (whole - depth) page
    page_aside page depth e out =
        let level : 0 ≡ whole - depth = omega arith in subst (λ (j : ℕ). IsAside first n j page) level (by_place out)
      where
        by_place : (page < first) ⊎ (first + n ≤ page) → IsAside first n 0 page
        by_place (inl before) = inl (omega arith)
        by_place (inr behind) = inr (omega arith)

    beside : (depth number : ℕ) → depth ≤ whole → number < 2 ^ depth →
        (2 ^ depth + number < length free + first) ⊎ (length free + (first + n) ≤ 2 ^ depth + number) →
        IsAside first n (whole - depth) number → slice_index new (2 ^ depth + number) ≡ mask_of free (whole - depth) number
    beside depth number fits few out aside = w.beside (2 ^ depth + number) out ∙ m.each depth number fits few (inr aside)

    above_pages : (depth number : ℕ) → depth < whole → number < 2 ^ depth → 2 ^ depth + number < length free + first
    above_pages depth number up few =
        let more : 2 ^ (depth + 1) ≡ 2 * 2 ^ depth = twice_pow depth in
        let over : 2 ^ (depth + 1) ≤ 2 ^ whole = pow_mono (omega arith) in
        omega (arith, more, over, size)

    only_aside : (depth number : ℕ) → 1 ≤ whole - depth → (whole - depth < 1) ⊎ IsAside first n (whole - depth) number →
        IsAside first n (whole - depth) number
    only_aside depth number up (inl small) = absurd (omega arith)
    only_aside depth number up (inr aside) = aside

    each : (depth number : ℕ) → depth ≤ whole → number < 2 ^ depth → (whole - depth < 1) ⊎ IsAside first n (whole - depth) number →
        slice_index new (2 ^ depth + number) ≡ mask_of free (whole - depth) number
    each depth number fits few known = elim (cases_eq depth whole) [
      | inl e ↦
          let same : 2 ^ depth ≡ length free = ap (λ (d : ℕ). 2 ^ d) e ∙ sym size in
          elim (cases_lt number first) [
            | inl before ↦ beside depth number fits few (inl (omega (arith, same))) (page_aside number depth e (inl before))
            | inr from ↦ elim (cases_lt number (first + n)) [
              | inl to ↦ page_here number from to depth e
              | inr behind ↦ beside depth number fits few (inr (omega (arith, same))) (page_aside number depth e (inr behind))
            ]
          ]
      | inr up ↦
          beside depth number fits few (inl (above_pages depth number (omega arith) few)) (only_aside depth number (omega arith) known)
    ]
