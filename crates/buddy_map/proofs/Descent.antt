-- The way down to the leftmost block of an order, and what the mask of the whole space answers.
use Rattle.std.proofs.Common.{inl, inr, ◌≡◌, ℕ, suc, ◌+◌, ◌*◌, ◌-◌, ◌/◌, ◌^◌, ◌<◌, ◌≤◌, Bool, List, length, Option, Some}
use Rattle.std.proofs.Common.{None, refl, sym, ap, ◌∙◌, subst, arith}
use Rattle.std.proofs.Math.Pow.{pow_mono}
use Rattle.std.proofs.lemmas.Bool.{cases_eq, cases_lt}
use Rattle.std.proofs.lemmas.Nat.{pow_pos, shl-shr, pow_below, div_below, pow-add}
use Rattle.std.proofs.lemmas.Nat.Bits.{bit_at-lt, bit_at-zero, bit_at_above}
use Rattle.std.specs.Int.{bit_at}
use Rattle.std.specs.Prelude.{slice_index, IfSome, IfNone}
use Rattle.block_model.specs.Block.{IsBlock, IsMaximal, IsPlace, IsLargest, IsOrder}
use Rattle.block_model.proofs.Runs.{IsBlock-within}
use Rattle.block_model.proofs.Levels.{maximal_by_parent}
use Rattle.block_model.proofs.Laws.{maximal_round, HasNoRoom-by_maximal}
use Rattle.buddy_map.specs.Tree.{mask_of, AreMasks, IsLeftmost}
use Rattle.buddy_map.proofs.Meaning.{block-mask, mask-maximal, maximal-mask, mask-most, no_block, twice_pow, halved}

-- ---- the whole space

pub root : (free : List Bool) (whole : ℕ) (masks : List ℕ) → AreMasks free whole masks → slice_index masks 1 ≡ mask_of free whole 0
root free whole masks tree =
    let all : whole - 0 ≡ whole = omega arith in
    tree.each 0 0 (omega arith) (omega arith) ∙ ap (λ (j : ℕ). mask_of free j 0) all

pub root_small : (free : List Bool) (whole : ℕ) (masks : List ℕ) → AreMasks free whole masks → slice_index masks 1 < 2 ^ (whole + 1)
root_small free whole masks tree =
    omega (arith, root free whole masks tree, mask-most free whole 0, twice_pow whole, pow_pos whole)

pub order_fits : (mask whole order : ℕ) → mask < 2 ^ (whole + 1) → bit_at mask order ≡ 1 → order ≤ whole
order_fits mask whole order small bit = elim (cases_lt whole order) [
  | inl more ↦ absurd (omega (arith, bit, bit_at_above mask (whole + 1) order small (omega arith)))
  | inr fits ↦ fits
]

-- a block of the space is no larger than it
order_most : (free : List Bool) (whole i r : ℕ) → length free ≡ 2 ^ whole → IsBlock free i r → i ≤ whole
order_most free whole i r size b = elim (cases_lt whole i) [
  | inl more ↦ absurd (omega (arith, size, IsBlock-within free i r b, pow_below whole i more))
  | inr fits ↦ fits
]

number_few : (free : List Bool) (whole i r : ℕ) → length free ≡ 2 ^ whole → i ≤ whole → IsBlock free i r → r < 2 ^ (whole - i)
number_few free whole i r size fits b =
    let all : (whole - i) + i ≡ whole = omega arith in
    let pow : 2 ^ (whole - i) * 2 ^ i ≡ 2 ^ whole = sym (pow-add 2 (whole - i) i) ∙ ap (λ (k : ℕ). 2 ^ k) all in
    let own : r * 2 ^ i / 2 ^ i ≡ r = shl-shr r i in
    let below : r * 2 ^ i / 2 ^ i < 2 ^ (whole - i) =
    div_below (r * 2 ^ i) (2 ^ i) (2 ^ (whole - i)) (pow_pos i) (omega (arith, pow, size, IsBlock-within free i r b, pow_pos i)) in
    omega (arith, own, below)

-- part 0 has what stands before its end
shr_small : (r d : ℕ) → r < 2 ^ d → r / 2 ^ d ≡ 0
shr_small r d less = let below : r / 2 ^ d < 1 = div_below r (2 ^ d) 1 (pow_pos d) (omega arith) in omega arith

-- each maximal block has its order in the mask of the whole
root-maximal : (free : List Bool) (whole i r : ℕ) → length free ≡ 2 ^ whole → IsMaximal free i r → bit_at (mask_of free whole 0) i ≡ 1
root-maximal free whole i r size m =
    let fits = order_most free whole i r size m.block in
    mask-maximal free (whole - i) i r 0 whole (omega (arith, fits)) m
    (shr_small r (whole - i) (number_few free whole i r size fits m.block))

whole_maximal : (free : List Bool) (whole q : ℕ) → length free ≡ 2 ^ whole → IsBlock free whole q → IsMaximal free whole q
whole_maximal free whole q size b = record {
  block = b;
  alone = λ i r more larger low high. omega (arith, order_most free whole i r size larger, more);
}

-- and each order of it has a maximal block
maximal-root : (free : List Bool) (whole i : ℕ) → length free ≡ 2 ^ whole → i ≤ whole → bit_at (mask_of free whole 0) i ≡ 1 →
    (r : ℕ) × IsMaximal free i r
maximal-root free whole i size fits e = elim (cases_eq i whole) [
  | inl same ↦
      let block : IsBlock free whole 0 = block-mask free whole 0 (ap (λ (k : ℕ). bit_at (mask_of free whole 0) k) (sym same) ∙ e) in
      (0, subst (λ (k : ℕ). IsMaximal free k 0) (sym same) (whole_maximal free whole 0 size block))
  | inr less ↦
      let found = maximal-mask free ((whole - i) - 1) i 0 whole (omega (arith, fits, less)) e in
      (found.number, found.maximal)
]

-- ---- the way down

-- part `number` of those of order j: it has a block of order i, and no such block stands before the part
pub record IsOnWay (free : List Bool) (i j number : ℕ) : Type 0 where
  pub above : i ≤ j
  pub has : bit_at (mask_of free j number) i ≡ 1
  pub first : (r : ℕ) → IsMaximal free i r → number ≤ r / 2 ^ (j - i)
  pub end : i ≡ j → IsMaximal free j number

pub way_begins : (free : List Bool) (masks : List ℕ) (whole i : ℕ) → AreMasks free whole masks → i ≤ whole →
    bit_at (slice_index masks 1) i ≡ 1 → IsOnWay free i (whole - 0) 0
way_begins free masks whole i tree fits e =
    let all : whole ≡ whole - 0 = omega arith in
    let has : bit_at (mask_of free whole 0) i ≡ 1 = ap (λ (m : ℕ). bit_at m i) (sym (root free whole masks tree)) ∙ e in
    subst (λ (j : ℕ). IsOnWay free i j 0) all (record {
      above = fits;
      has = has;
      first = λ r m. omega arith;
      end = λ same. whole_maximal free whole 0 tree.pages
          (block-mask free whole 0 (ap (λ (k : ℕ). bit_at (mask_of free whole 0) k) (sym same) ∙ has));
    })

half_up : (i j r : ℕ) → i ≤ j → r / 2 ^ (j - i) / 2 ≡ r / 2 ^ (suc j - i)
half_up i j r fits = let e : suc (j - i) ≡ suc j - i = omega arith in halved r (j - i) ∙ ap (λ (k : ℕ). r / 2 ^ k) e

-- a half that has the order is a maximal block where it is of that order
ends : (free : List Bool) (i j q c : ℕ) → IsOnWay free i (suc j) q → i ≤ j → c / 2 ≡ q → bit_at (mask_of free j c) i ≡ 1 → i ≡ j →
    IsMaximal free j c
ends free i j q c way fits half e same =
    maximal_by_parent free j c (block-mask free j c (ap (λ (k : ℕ). bit_at (mask_of free j c) k) (sym same) ∙ e))
    (λ b. no_block free (suc j) q i (omega arith) way.has (subst (λ (x : ℕ). IsBlock free (suc j) x) half b))

goes_left : (free : List Bool) (i j q : ℕ) → IsOnWay free i (suc j) q → i ≤ j → bit_at (mask_of free j (2 * q)) i ≡ 1 →
    IsOnWay free i j (2 * q)
goes_left free i j q way fits e = record {
  above = fits;
  has = e;
  first = λ r m. omega (arith, way.first r m, half_up i j r fits);
  end = ends free i j q (2 * q) way fits (omega arith) e;
}

-- no block of the order stands in the left half, so one stands in the right half
none_left : (free : List Bool) (i j q r : ℕ) → i ≤ j → bit_at (mask_of free j (2 * q)) i ≡ 0 → IsMaximal free i r →
    r / 2 ^ (j - i) ≡ 2 * q → ⊥
none_left free i j q r fits e m at =
    omega (arith, e, mask-maximal free (j - i) i r (2 * q) j (omega (arith, fits)) m at)

goes_right : (free : List Bool) (i j q : ℕ) → IsOnWay free i (suc j) q → i ≤ j → bit_at (mask_of free j (2 * q)) i ≡ 0 →
    IsOnWay free i j (2 * q + 1)
goes_right free i j q way fits e =
    let found = maximal-mask free (j - i) i q (suc j) (omega (arith, fits)) way.has in
    let deep : suc (j - i) ≡ suc j - i = omega (arith, fits) in
    let inside : found.number / 2 ^ (suc j - i) ≡ q = ap (λ (k : ℕ). found.number / 2 ^ k) (sym deep) ∙ found.inside in
    let at : found.number / 2 ^ (j - i) ≡ 2 * q + 1 = elim (cases_eq (found.number / 2 ^ (j - i)) (2 * q)) [
      | inl left ↦ absurd (none_left free i j q found.number fits e found.maximal left)
      | inr right ↦ omega (arith, right, half_up i j found.number fits, inside)
    ] in
    let has : bit_at (mask_of free j (2 * q + 1)) i ≡ 1 =
    mask-maximal free (j - i) i found.number (2 * q + 1) j (omega (arith, fits)) found.maximal at in record {
      above = fits;
      has = has;
      first = λ r m. elim (cases_eq (r / 2 ^ (j - i)) (2 * q)) [
        | inl left ↦ absurd (none_left free i j q r fits e m left)
        | inr right ↦ omega (arith, right, way.first r m, half_up i j r fits)
      ];
      end = ends free i j q (2 * q + 1) way fits (omega arith) has;
    }

way_ends : (free : List Bool) (i q : ℕ) → IsOnWay free i i q → IsLeftmost free i q
way_ends free i q way = record {
  maximal = way.end refl;
  lowest = λ r m.
      let none : i - i ≡ 0 = omega arith in
      let one : r / 2 ^ 0 ≡ r = omega arith in
      let own : r / 2 ^ (i - i) ≡ r = ap (λ (k : ℕ). r / 2 ^ k) none ∙ one in omega (arith, way.first r m, own);
}

-- ---- a step down, by the parts' places in the list

left_mask : (free : List Bool) (masks : List ℕ) (whole depth part next : ℕ) → AreMasks free whole masks → depth < whole →
    2 ^ depth ≤ part → part < 2 * 2 ^ depth → next ≡ 2 * part →
    slice_index masks next ≡ mask_of free (whole - (depth + 1)) (2 * (part - 2 ^ depth))
left_mask free masks whole depth part next tree less from to e =
    let more : 2 ^ (depth + 1) ≡ 2 * 2 ^ depth = twice_pow depth in
    let at : next ≡ 2 ^ (depth + 1) + 2 * (part - 2 ^ depth) = omega (arith, more) in
    ap (λ (x : ℕ). slice_index masks x) at
    ∙ tree.each (depth + 1) (2 * (part - 2 ^ depth)) (omega arith) (omega (arith, more))

part_left : (free : List Bool) (masks : List ℕ) (whole i depth part next : ℕ) → AreMasks free whole masks → i ≤ whole →
    depth < whole - i → 2 ^ depth ≤ part → part < 2 * 2 ^ depth → next ≡ 2 * part → IsOnWay free i (whole - depth) (part - 2 ^ depth) →
    bit_at (slice_index masks next) i ≡ 1 → IsOnWay free i (whole - (depth + 1)) (next - 2 ^ (depth + 1))
part_left free masks whole i depth part next tree fits less from to e way bit =
    let more : 2 ^ (depth + 1) ≡ 2 * 2 ^ depth = twice_pow depth in
    let up : whole - depth ≡ suc (whole - (depth + 1)) = omega arith in
    let number : 2 * (part - 2 ^ depth) ≡ next - 2 ^ (depth + 1) = omega (arith, more) in
    let mask = left_mask free masks whole depth part next tree (omega arith) from to e in
    subst (λ (x : ℕ). IsOnWay free i (whole - (depth + 1)) x) number
    (goes_left free i (whole - (depth + 1)) (part - 2 ^ depth) (subst (λ (k : ℕ). IsOnWay free i k (part - 2 ^ depth)) up way)
    (omega arith) (ap (λ (m : ℕ). bit_at m i) (sym mask) ∙ bit))

part_right : (free : List Bool) (masks : List ℕ) (whole i depth part next : ℕ) → AreMasks free whole masks → i ≤ whole →
    depth < whole - i → 2 ^ depth ≤ part → part < 2 * 2 ^ depth → next ≡ 2 * part → IsOnWay free i (whole - depth) (part - 2 ^ depth) →
    bit_at (slice_index masks next) i ≡ 0 → IsOnWay free i (whole - (depth + 1)) ((next + 1) - 2 ^ (depth + 1))
part_right free masks whole i depth part next tree fits less from to e way bit =
    let more : 2 ^ (depth + 1) ≡ 2 * 2 ^ depth = twice_pow depth in
    let up : whole - depth ≡ suc (whole - (depth + 1)) = omega arith in
    let number : 2 * (part - 2 ^ depth) + 1 ≡ (next + 1) - 2 ^ (depth + 1) = omega (arith, more) in
    let mask = left_mask free masks whole depth part next tree (omega arith) from to e in
    subst (λ (x : ℕ). IsOnWay free i (whole - (depth + 1)) x) number
    (goes_right free i (whole - (depth + 1)) (part - 2 ^ depth) (subst (λ (k : ℕ). IsOnWay free i k (part - 2 ^ depth)) up way)
    (omega arith) (ap (λ (m : ℕ). bit_at m i) (sym mask) ∙ bit))

-- the left half where it has the order, and else the right one
pub part_down : (free : List Bool) (masks : List ℕ) (whole i depth part half : ℕ) → AreMasks free whole masks → i ≤ whole →
    depth < whole - i → 2 ^ depth ≤ part → part < 2 * 2 ^ depth → IsOnWay free i (whole - depth) (part - 2 ^ depth) →
    (bit_at (slice_index masks (2 * part)) i ≡ 1 → half ≡ 2 * part) →
    (bit_at (slice_index masks (2 * part)) i ≡ 0 → half ≡ 2 * part + 1) → IsOnWay free i (whole - (depth + 1)) (half - 2 ^ (depth + 1))
part_down free masks whole i depth part half tree fits less from to way left right =
    elim (cases_eq (bit_at (slice_index masks (2 * part)) i) 1) [
      | inl one ↦ subst (λ (x : ℕ). IsOnWay free i (whole - (depth + 1)) (x - 2 ^ (depth + 1))) (sym (left one))
          (part_left free masks whole i depth part (2 * part) tree fits less from to refl way one)
      | inr other ↦
          let none : bit_at (slice_index masks (2 * part)) i ≡ 0 = omega (arith, other, bit_at-lt (slice_index masks (2 * part)) i) in
          subst (λ (x : ℕ). IsOnWay free i (whole - (depth + 1)) (x - 2 ^ (depth + 1))) (sym (right none))
          (part_right free masks whole i depth part (2 * part) tree fits less from to refl way none)
    ]

-- the halves of a part of the space have masks
pub halves_within : (whole depth part : ℕ) → depth < whole → part < 2 * 2 ^ depth → 2 * part + 1 < 2 * 2 ^ whole
halves_within whole depth part less to =
    let up : 2 ^ (depth + 1) ≤ 2 ^ whole = pow_mono (omega arith) in omega (arith, up, twice_pow depth)

pub way_found : (free : List Bool) (whole i depth part size : ℕ) → i ≤ whole → depth ≡ whole - i → size ≡ 2 ^ depth →
    IsOnWay free i (whole - depth) (part - 2 ^ depth) → IsLeftmost free i (part - size)
way_found free whole i depth part size fits at pages way =
    let level : whole - depth ≡ i = omega arith in
    let number : part - 2 ^ depth ≡ part - size = ap (λ (x : ℕ). part - x) (sym pages) in
    way_ends free i (part - size)
    (subst (λ (x : ℕ). IsOnWay free i i x) number (subst (λ (j : ℕ). IsOnWay free i j (part - 2 ^ depth)) level way))

-- ---- what the whole's mask answers

pub placed : (free : List Bool) (whole n least order q : ℕ) → length free ≡ 2 ^ whole → IsOrder n least → least ≤ order →
    ((i : ℕ) → least ≤ i → bit_at (mask_of free whole 0) i ≡ 1 → order ≤ i) → IsLeftmost free order q →
    IsPlace free n (Some (q * 2 ^ order))
placed free whole n least order q size o fits lowest leftmost =
    let more : 2 ^ least ≤ 2 ^ order = pow_mono fits in (
      order,
      q,
      refl,
      record {
        fits = omega (arith, o.holds, more);
        maximal = leftmost.maximal;
        least = λ i r other holds. lowest i (o.least i holds) (root-maximal free whole i r size other);
        lowest = leftmost.lowest;
      },
    )

pub not_placed : (free : List Bool) (whole n least : ℕ) → length free ≡ 2 ^ whole → IsOrder n least →
    ((i : ℕ) → least ≤ i → bit_at (mask_of free whole 0) i ≡ 0) → IsPlace free n None
not_placed free whole n least size o none =
    HasNoRoom-by_maximal free n (λ i r holds m. omega (arith, none i (o.least i holds), root-maximal free whole i r size m))

-- the greatest order of a mask
pub record IsGreatest (mask : ℕ) (order : Option ℕ) : Type 0 where
  pub found : IfSome order (λ i. bit_at mask i ≡ 1)
  pub greatest : IfSome order (λ i. (k : ℕ) → bit_at mask k ≡ 1 → k ≤ i)
  pub none : IfNone order (mask ≡ 0)

largest_by : (free : List Bool) (whole : ℕ) (order : Option ℕ) → length free ≡ 2 ^ whole → IsGreatest (mask_of free whole 0) order →
    IsLargest free order
largest_by free whole (Some order) size g =
    let small : mask_of free whole 0 < 2 ^ (whole + 1) = omega (arith, mask-most free whole 0, twice_pow whole, pow_pos whole) in
    let found = maximal-root free whole order size (order_fits (mask_of free whole 0) whole order small g.found) g.found in (
      (found.0, found.1.block),
      λ i r b. let up = maximal_round free i r b in
          omega (arith, up.above, g.greatest up.order (root-maximal free whole up.order up.number size up.maximal)),
    )
largest_by free whole None size g =
    HasNoRoom-by_maximal free 1 (λ i r holds m.
    omega (arith, root-maximal free whole i r size m, ap (λ (x : ℕ). bit_at x i) g.none ∙ bit_at-zero i))

pub is_largest : (free : List Bool) (whole : ℕ) (masks : List ℕ) (order : Option ℕ) → AreMasks free whole masks →
    IsGreatest (slice_index masks 1) order → IsLargest free order
is_largest free whole masks order tree g =
    largest_by free whole order tree.pages (subst (λ (m : ℕ). IsGreatest m order) (root free whole masks tree) g)
