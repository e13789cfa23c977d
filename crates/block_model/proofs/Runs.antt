-- Runs and blocks of a set of pages: parts of a run, a block's two halves, its parent, its bounds.
use Rattle.std.proofs.Common.{inl, inr, ◌≡◌, ℕ, suc, zero, ◌+◌, ◌*◌, ◌/◌, ◌^◌, ◌<◌, ◌≤◌, ◌-◌, Bool, false, List}
use Rattle.std.proofs.Common.{length, sym, ap, ◌∙◌, arith}
use Rattle.std.proofs.Math.Nat.{pow-succ', mul-le-mul_right, le_of_mul-le-mul_right}
use Rattle.std.proofs.lemmas.Nat.{pow_pos, pow-add}
use Rattle.std.proofs.lemmas.List.{get_or_past}
use Rattle.std.proofs.lemmas.Bool.{cases_lt, false≢true}
use Rattle.std.specs.Prelude.{IsTrue}
use Rattle.block_model.specs.Block.{has_page, HasRun, IsBlock}

-- a page of the set lies in the list
pub page_within : (pages : List Bool) (page : ℕ) → IsTrue (has_page pages page) → page < length pages
page_within pages page h =
    elim (cases_lt page (length pages)) [
      | inl l ↦ l
      | inr ge ↦ absurd (false≢true (sym (get_or_past pages page false ge) ∙ h))
    ]

-- a part of a run
pub HasRun-part : (pages : List Bool) (a n b m : ℕ) → HasRun pages a n → a ≤ b → b + m ≤ a + n → HasRun pages b m
HasRun-part pages a n b m run low high = record { each = λ page from to. run.each page (omega arith) (omega arith) }

-- two runs in a row are one
pub HasRun-join : (pages : List Bool) (a n m : ℕ) → HasRun pages a n → HasRun pages (a + n) m → HasRun pages a (n + m)
HasRun-join pages a n m left right = record {
  each = λ page from to. elim (cases_lt page (a + n)) [
    | inl l ↦ left.each page from l
    | inr ge ↦ right.each page ge (omega arith)
  ];
}

-- a run that has pages ends within the list
pub HasRun-within : (pages : List Bool) (a n : ℕ) → 0 < n → HasRun pages a n → a + n ≤ length pages
HasRun-within pages a n some run =
    let last : a + n - 1 < length pages = page_within pages (a + n - 1) (run.each (a + n - 1) (omega arith) (omega arith)) in omega arith

pub doubled : (q j : ℕ) → q * 2 ^ suc j ≡ 2 * (q * 2 ^ j)
doubled q j = let e : q * 2 ^ suc j ≡ q * (2 * 2 ^ j) = ap (λ x. q * x) (pow-succ' 2 j) in omega arith

-- the halves of a block are blocks of the order below, and two of those are a block
pub IsBlock-left : (free : List Bool) (j q : ℕ) → IsBlock free (suc j) q → IsBlock free j (2 * q)
IsBlock-left free j q b = HasRun-part free (q * 2 ^ suc j) (2 ^ suc j) (2 * q * 2 ^ j)
    (2 ^ j) b (omega (arith, doubled q j)) (omega (arith, doubled q j, pow-succ' 2 j))

pub IsBlock-right : (free : List Bool) (j q : ℕ) → IsBlock free (suc j) q → IsBlock free j (2 * q + 1)
IsBlock-right free j q b = HasRun-part free (q * 2 ^ suc j) (2 ^ suc j) ((2 * q + 1) * 2 ^ j)
    (2 ^ j) b (omega (arith, doubled q j)) (omega (arith, doubled q j, pow-succ' 2 j))

pub IsBlock-join : (free : List Bool) (j q : ℕ) → IsBlock free j (2 * q) → IsBlock free j (2 * q + 1) → IsBlock free (suc j) q
IsBlock-join free j q left right = record {
  each = λ page from to. elim (cases_lt page (2 * q * 2 ^ j + 2 ^ j)) [
    | inl l ↦ left.each page (omega (arith, doubled q j)) l
    | inr ge ↦ right.each page (omega arith) (omega (arith, doubled q j, pow-succ' 2 j))
  ];
}

pub below_power : (n : ℕ) → n < 2 ^ n
below_power zero = omega arith
below_power (suc n) = omega (arith, below_power n, pow-succ' 2 n)

-- a block is no larger than the list
pub IsBlock-within : (free : List Bool) (j q : ℕ) → IsBlock free j q → q * 2 ^ j + 2 ^ j ≤ length free
IsBlock-within free j q b = HasRun-within free (q * 2 ^ j) (2 ^ j) (pow_pos j) b

pub order_below : (free : List Bool) (j q : ℕ) → IsBlock free j q → j < length free
order_below free j q b = omega (arith, IsBlock-within free j q b, below_power j)

-- a block has a block of each lower order at its start
pub IsBlock-lower : (free : List Bool) (j d q : ℕ) → IsBlock free (j + d) q → IsBlock free j (q * 2 ^ d)
IsBlock-lower free j d q b =
    let e : q * 2 ^ (j + d) ≡ q * (2 ^ j * 2 ^ d) = ap (λ x. q * x) (pow-add 2 j d) in
    let m : 1 * 2 ^ j ≤ 2 ^ d * 2 ^ j = mul-le-mul_right (2 ^ j) (pow_pos d) in
    HasRun-part free (q * 2 ^ (j + d)) (2 ^ (j + d)) (q * 2 ^ d * 2 ^ j) (2 ^ j) b (omega arith) (omega (arith, pow-add 2 j d))

-- what lies round a block and is larger lies round its parent
pub parent_between : (j d q r : ℕ) → r * 2 ^ (suc j + d) ≤ q * 2 ^ j → q * 2 ^ j + 2 ^ j ≤ r * 2 ^ (suc j + d) + 2 ^ (suc j + d) →
    (r * 2 ^ (suc j + d) ≤ q / 2 * 2 ^ suc j) × (q / 2 * 2 ^ suc j + 2 ^ suc j ≤ r * 2 ^ (suc j + d) + 2 ^ (suc j + d))
parent_between j d q r low high =
    let whole : 2 ^ (suc j + d) ≡ 2 * (2 ^ d * 2 ^ j) = pow-add 2 (suc j) d ∙ ap (λ x. x * 2 ^ d) (pow-succ' 2 j) ∙ omega arith in
    let start : r * 2 ^ (suc j + d) ≡ r * (2 * (2 ^ d * 2 ^ j)) = ap (λ x. r * x) whole in
    let below : 2 * (r * 2 ^ d) ≤ q = le_of_mul-le-mul_right {m = 2 * (r * 2 ^ d)} {n = q} {k = 2 ^ j} (omega arith) (pow_pos j) in
    let above : q + 1 ≤ 2 * (r * 2 ^ d) + 2 * 2 ^ d =
    le_of_mul-le-mul_right {m = q + 1} {n = 2 * (r * 2 ^ d) + 2 * 2 ^ d} {k = 2 ^ j} (omega arith)
    (pow_pos j) in
    let low' : r * 2 ^ d * (2 * 2 ^ j) ≤ q / 2 * (2 * 2 ^ j) = mul-le-mul_right (2 * 2 ^ j) (omega arith) in
    let high' : (q / 2 + 1) * (2 * 2 ^ j) ≤ (r * 2 ^ d + 2 ^ d) * (2 * 2 ^ j) = mul-le-mul_right (2 * 2 ^ j) (omega arith) in
    let parent : q / 2 * 2 ^ suc j ≡ q / 2 * (2 * 2 ^ j) = ap (λ x. q / 2 * x) (pow-succ' 2 j) in
    (omega arith, omega (arith, pow-succ' 2 j))
