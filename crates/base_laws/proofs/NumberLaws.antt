-- Tests of numbers, and quotients that come out even.
use Rattle.std.proofs.Common.{◌≡◌, ℕ, ◌+◌, ◌-◌, ◌*◌, ◌/◌, ◌^◌, ◌≤◌, ◌||◌, ap, sym, arith, ◌∙◌, nat_lt, inl, inr}
use Rattle.std.proofs.lemmas.Bool.Decides.{nat_tests}
use Rattle.std.proofs.Math.Nat.{div_self}
use Rattle.std.proofs.Math.Pow.{pow-add}

-- a sum is something where one of the two is
pub some-of : (a b : ℕ) → nat_lt 0 (a + b) ≡ (nat_lt 0 a || nat_lt 0 b)
some-of a b = grind (arith, nat_tests)

-- a page is one page
pub one_page : (n size : ℕ) → n ≡ size → 1 ≤ size → n / size ≡ 1
one_page n size e some = ap (λ (m : ℕ). m / size) e ∙ div_self {n = size} some

-- from 16 on a power of two is a number of whole eights
pub eights : (order : ℕ) → 4 ≤ order → 8 * (2 ^ order / 8) ≡ 2 ^ order
eights order low =
    let split : 2 ^ (order - 3 + 3) ≡ 2 ^ (order - 3) * 2 ^ 3 = pow-add 2 (order - 3) 3 in
    let same : order - 3 + 3 ≡ order = omega arith in
    let size : 2 ^ order ≡ 2 ^ (order - 3) * 8 = ap (λ (k : ℕ). 2 ^ k) (sym same) ∙ split in omega arith
