-- Bits of words: a run of them set, cleared, counted and found.
use Rattle.std.proofs.Common.{inl, inr, ◌≡◌, ℕ, zero, suc, ◌+◌, ◌*◌, ◌-◌, ◌/◌, ◌%◌, ◌^◌, ◌<◌, ◌≤◌, Bool, true}
use Rattle.std.proofs.Common.{false, refl, sym, ap, ◌∙◌, arith}
use Rattle.std.proofs.lemmas.Bool.{false≢true, cases_eq, cases_lt}
use Rattle.std.proofs.lemmas.Nat.{and_le_l, pow_pos, shl_whole, shr-shr, shr_le, ones_cat}
use Rattle.std.proofs.lemmas.Nat.Bits.{bit_at-lt, bit_at-zero, bit_at-suc, bit_at_lowest, bit_at_and, bit_at_or}
use Rattle.std.proofs.lemmas.Nat.Bits.{bit_at_not, bit_at_ones, bit_at_ones_above, bit_at_above, bit_at_cat_low}
use Rattle.std.proofs.lemmas.Nat.Bits.{bit_at_cat_high, bit_at-trailing_ones, ones_shr}
use Rattle.std.specs.Prelude.{if◌then◌else◌, ◌⊎◌, nat_eq}
use Rattle.std.specs.Int.{bit_at, bit_not, trailing_ones, w64}
use Rattle.std.specs.Int.RustNames.{bit_and, bit_or, count_ones}
use Rattle.page_set.specs.Members.{count_on, AllOn, IsWithRun, IsWithoutRun}
use Rattle.page_set.specs.Words.{is_bit}
use Rattle.page_set.proofs.Counts.{count_on-more, count_on-nothing, count_on-moved, count_on-none, count_on-same, count_on-split}

-- what a set bit and a clear one are as numbers
pub bit_set : (word i : ℕ) → bit_at word i ≡ 1 → is_bit word i ≡ true
bit_set word i e = ap (λ (b : ℕ). nat_eq b 1) e

pub bit_clear : (word i : ℕ) → bit_at word i ≡ 0 → is_bit word i ≡ false
bit_clear word i e = ap (λ (b : ℕ). nat_eq b 1) e

pub set_bit : (word i : ℕ) → is_bit word i ≡ true → bit_at word i ≡ 1
set_bit word i h = elim (cases_eq (bit_at word i) 1) [
  | inl e ↦ e
  | inr ne ↦ absurd (false≢true (sym (bit_clear word i (omega (arith, ne, bit_at-lt word i))) ∙ h))
]

pub clear_bit : (word i : ℕ) → is_bit word i ≡ false → bit_at word i ≡ 0
clear_bit word i h = elim (cases_eq (bit_at word i) 1) [
  | inl e ↦ absurd (false≢true (sym h ∙ bit_set word i e))
  | inr ne ↦ omega (arith, ne, bit_at-lt word i)
]

pub no_bit : (i : ℕ) → is_bit 0 i ≡ false
no_bit i = bit_clear 0 i (bit_at-zero i)

-- ---- a mask

pub mask_is : (from n : ℕ) → 1 ≤ n → from + n ≤ 64 → ((2 ^ 64 - 1) / 2 ^ (64 - n) * 2 ^ from) % 2 ^ 64 ≡ (2 ^ n - 1) * 2 ^ from
mask_is from n some within =
    let same : 64 - (64 - n) ≡ n = omega arith in
    let low : (2 ^ 64 - 1) / 2 ^ (64 - n) ≡ 2 ^ n - 1 = ones_shr 64 (64 - n) (omega arith) ∙ ap (λ (k : ℕ). 2 ^ k - 1) same in
    ap (λ (a : ℕ). (a * 2 ^ from) % 2 ^ 64) low ∙ shl_whole (2 ^ n - 1) n from 64 (omega (arith, pow_pos n)) (omega arith)

plain : (a : ℕ) → a ≡ a + 0
plain a = omega arith

pub mask_inside : (from n i : ℕ) → from ≤ i → i < from + n → is_bit ((2 ^ n - 1) * 2 ^ from) i ≡ true
mask_inside from n i low high =
    bit_set ((2 ^ n - 1) * 2 ^ from) i (ap (λ (a : ℕ). bit_at a i) (plain ((2 ^ n - 1) * 2 ^ from))
    ∙ bit_at_cat_high (2 ^ n - 1) from 0 i (pow_pos from) low ∙ bit_at_ones n (i - from) (omega arith))

pub mask_beside : (from n i : ℕ) → (i < from) ⊎ (from + n ≤ i) → is_bit ((2 ^ n - 1) * 2 ^ from) i ≡ false
mask_beside from n i (inl low) =
    bit_clear ((2 ^ n - 1) * 2 ^ from) i (ap (λ (a : ℕ). bit_at a i) (plain ((2 ^ n - 1) * 2 ^ from))
    ∙ bit_at_cat_low (2 ^ n - 1) from 0 i low ∙ bit_at-zero i)
mask_beside from n i (inr high) =
    bit_clear ((2 ^ n - 1) * 2 ^ from) i (ap (λ (a : ℕ). bit_at a i) (plain ((2 ^ n - 1) * 2 ^ from))
    ∙ bit_at_cat_high (2 ^ n - 1) from 0 i (pow_pos from) (omega arith) ∙ bit_at_ones_above n (i - from) (omega arith))

-- ---- a mask set, cleared and looked through

or_set : (word mask i : ℕ) → is_bit mask i ≡ true → is_bit (bit_or word mask) i ≡ true
or_set word mask i h = bit_set (bit_or word mask) i (omega (arith, bit_at_or word mask i, set_bit mask i h, bit_at-lt word i))

or_clear : (word mask i : ℕ) → is_bit mask i ≡ false → is_bit (bit_or word mask) i ≡ is_bit word i
or_clear word mask i h =
    let e : bit_at (bit_or word mask) i ≡ bit_at word i = omega (arith, bit_at_or word mask i, clear_bit mask i h) in
    ap (λ (b : ℕ). nat_eq b 1) e

and_set : (word mask i : ℕ) → is_bit mask i ≡ true → is_bit (bit_and word mask) i ≡ is_bit word i
and_set word mask i h =
    let e : bit_at (bit_and word mask) i ≡ bit_at word i =
    omega (arith, bit_at_and word mask i, set_bit mask i h, bit_at-lt word i) in
    ap (λ (b : ℕ). nat_eq b 1) e

and_clear : (word mask i : ℕ) → is_bit mask i ≡ false → is_bit (bit_and word mask) i ≡ false
and_clear word mask i h = bit_clear (bit_and word mask) i (omega (arith, bit_at_and word mask i, clear_bit mask i h))

not_set : (mask i : ℕ) → mask < 2 ^ 64 → i < 64 → is_bit mask i ≡ true → is_bit (bit_not w64 mask) i ≡ false
not_set mask i small within h = bit_clear (bit_not w64 mask) i (omega (arith, bit_at_not w64 mask i small within, set_bit mask i h))

not_clear : (mask i : ℕ) → mask < 2 ^ 64 → i < 64 → is_bit mask i ≡ false → is_bit (bit_not w64 mask) i ≡ true
not_clear mask i small within h = bit_set (bit_not w64 mask) i (omega (arith, bit_at_not w64 mask i small within, clear_bit mask i h))

above : (word i : ℕ) → word < 2 ^ 64 → 64 ≤ i → is_bit word i ≡ false
above word i small high = bit_clear word i (bit_at_above word 64 i small high)

-- the mask of the n bits from `from` on
pub record IsMask (mask from n : ℕ) : Type 0 where
  pub small : mask < 2 ^ 64
  pub inside : AllOn (is_bit mask) from n
  pub beside : (i : ℕ) → (i < from) ⊎ (from + n ≤ i) → is_bit mask i ≡ false

pub set_by : (word mask from n : ℕ) → IsMask mask from n → IsWithRun from n (is_bit word) (is_bit (bit_or word mask))
set_by word mask from n m = record {
  inside = λ i low high. or_set word mask i (m.inside i low high);
  beside = λ i out. or_clear word mask i (m.beside i out);
}

pub cleared_by : (word mask from n : ℕ) → word < 2 ^ 64 → from + n ≤ 64 → IsMask mask from n →
    IsWithoutRun from n (is_bit word) (is_bit (bit_and word (bit_not w64 mask)))
cleared_by word mask from n small within m = record {
  inside = λ i low high. and_clear word (bit_not w64 mask) i (not_set mask i m.small (omega arith) (m.inside i low high));
  beside = λ i out. elim (cases_lt i 64) [
    | inl less ↦ and_set word (bit_not w64 mask) i (not_clear mask i m.small less (m.beside i out))
    | inr high ↦ bit_clear (bit_and word (bit_not w64 mask)) i (omega (
      arith,
      bit_at_and word (bit_not w64 mask) i,
      bit_at_above word 64 i small high,
    )) ∙ sym (above word i small high)
  ];
}

-- ---- counts

no_ones : count_ones 0 ≡ 0
unfolding count_ones
no_ones = refl

one_bit : (r : ℕ) → r < 2 → count_ones r ≡ (if nat_eq (bit_at r 0) 1 then 1 else 0)
unfolding count_ones
one_bit zero small = refl
one_bit (suc zero) small = refl
one_bit (suc (suc r)) small = absurd (omega arith)

lowest : (word : ℕ) → is_bit (word % 2) 0 ≡ is_bit word 0
lowest word =
    let e : bit_at (word % 2) 0 ≡ bit_at word 0 = omega (arith, bit_at_lowest (word % 2), bit_at_lowest word) in
    ap (λ (b : ℕ). nat_eq b 1) e

pub ones_counted : (k word : ℕ) → word < 2 ^ k → count_ones word ≡ count_on (is_bit word) 0 k
ones_counted zero word small =
    let nothing : word ≡ 0 = omega arith in
    ap (λ (w : ℕ). count_ones w) nothing ∙ no_ones ∙ sym (count_on-nothing (is_bit word) 0)
ones_counted (suc k) word small =
    let split : word ≡ word / 2 * 2 ^ 1 + word % 2 = omega arith in
    let cat : count_ones (word / 2 * 2 ^ 1 + word % 2) ≡ count_ones (word / 2) + count_ones (word % 2) =
    ones_cat 1 (word / 2) (word % 2) (omega arith) in
    let whole : count_ones word ≡ count_ones (word / 2 * 2 ^ 1 + word % 2) = ap (λ (w : ℕ). count_ones w) split in
    let low : count_ones (word % 2) ≡ (if is_bit word 0 then 1 else 0) = one_bit (word % 2) (omega arith)
    ∙ ap (λ (b : Bool). if b then 1 else 0) (lowest word) in
    let high : count_on (is_bit word) 1 k ≡ count_on (is_bit (word / 2)) 0 k =
    count_on-moved (is_bit word) (is_bit (word / 2)) 1 0 k (λ i less.
    ap (λ (j : ℕ). is_bit word j) (let e : 1 + i ≡ suc i = omega arith in e) ∙ ap (λ (b : ℕ). nat_eq b 1) (bit_at-suc word i)
    ∙ ap (λ (j : ℕ). is_bit (word / 2) j) (let e : i ≡ 0 + i = omega arith in e)) in
    let twice : 2 ^ suc k ≡ 2 * 2 ^ k = omega arith in
    omega (arith, whole, cat, low, high, count_on-more (is_bit word) 0 k, ones_counted k (word / 2) (omega arith))

pub counted_by : (word mask from n : ℕ) → word < 2 ^ 64 → from + n ≤ 64 → IsMask mask from n →
    count_ones (bit_and word mask) ≡ count_on (is_bit word) from n
counted_by word mask from n small within m =
    let w = bit_and word mask in
    let fits : w < 2 ^ 64 = omega (arith, and_le_l word mask) in
    let whole : (from + n) + (64 - (from + n)) ≡ 64 = omega arith in
    let all : count_on (is_bit w) 0 64 ≡ count_on (is_bit w) 0 ((from + n) + (64 - (from + n))) =
    ap (λ (k : ℕ). count_on (is_bit w) 0 k) (sym whole) in
    let before : count_on (is_bit w) 0 from ≡ 0 =
    count_on-none (is_bit w) 0 from (λ i low high. and_clear word mask i (m.beside i (inl (omega arith)))) in
    let behind : count_on (is_bit w) (0 + (from + n)) (64 - (from + n)) ≡ 0 =
    count_on-none (is_bit w) (0 + (from + n)) (64 - (from + n)) (λ i low high. and_clear word mask i (m.beside i (inr (omega arith)))) in
    let at : 0 + from ≡ from = omega arith in
    let move : count_on (is_bit w) (0 + from) n ≡ count_on (is_bit w) from n = ap (λ (k : ℕ). count_on (is_bit w) k n) at in
    let inside : count_on (is_bit w) from n ≡ count_on (is_bit word) from n =
    count_on-same (is_bit word) (is_bit w) from n (λ i low high. and_set word mask i (m.inside i low high)) in
    omega (
      arith,
      ones_counted 64 w fits,
      all,
      before,
      behind,
      move,
      inside,
      count_on-split (is_bit w) 0 (from + n) (64 - (from + n)),
      count_on-split (is_bit w) 0 from n,
    )

-- ---- bits side by side

pub shifted : (word from j : ℕ) → is_bit (word / 2 ^ from) j ≡ is_bit word (from + j)
shifted word from j = ap (λ (m : ℕ). nat_eq (m % 2) 1) (shr-shr word from j)

pub all_set : (i : ℕ) → i < 64 → is_bit (2 ^ 64 - 1) i ≡ true
all_set i less = bit_set (2 ^ 64 - 1) i (bit_at_ones 64 i less)

pub record IsRunOfBits (word from n : ℕ) : Type 0 where
  pub within : from + n ≤ 64
  pub all : AllOn (is_bit word) from n
  pub ends : from + n < 64 → is_bit word (from + n) ≡ false

pub run_at : (word from : ℕ) → word < 2 ^ 64 → (word ≡ 2 ^ 64 - 1 → ⊥) → from < 64 →
    IsRunOfBits word from (trailing_ones w64 (word / 2 ^ from))
run_at word from small other less =
    let found = bit_at-trailing_ones w64 (word / 2 ^ from) (omega (arith, other, shr_le word from)) in
    let n = trailing_ones w64 (word / 2 ^ from) in
    let ends : is_bit word (from + n) ≡ false = sym (shifted word from n) ∙ bit_clear (word / 2 ^ from) n found.1 in
    record {
      within = elim (cases_lt 64 (from + n)) [
        | inl far ↦ let top : from + (64 - from) ≡ 64 = omega arith in
            absurd (false≢true (sym (above word 64 small (omega arith)) ∙ ap (λ (i : ℕ). is_bit word i) (sym top)
            ∙ sym (shifted word from (64 - from))
            ∙ bit_set (word / 2 ^ from) (64 - from) (found.2 (64 - from) (omega arith))))
        | inr near ↦ near
      ];
      all = λ i low high.
          let at : i ≡ from + (i - from) = omega arith in
          ap (λ (j : ℕ). is_bit word j) at ∙ sym (shifted word from (i - from))
          ∙ bit_set (word / 2 ^ from) (i - from) (found.2 (i - from) (omega arith));
      ends = λ _. ends;
    }
