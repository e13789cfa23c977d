-- The trailing zeros of a mask shifted down give its least order from there on.
use Rattle.std.proofs.Common.{inl, inr, ◌≡◌, ℕ, ◌+◌, ◌-◌, ◌/◌, ◌%◌, ◌^◌, ◌<◌, ◌≤◌, ap, sym, ◌∙◌, arith}
use Rattle.std.proofs.lemmas.Bool.{cases_lt}
use Rattle.std.proofs.lemmas.Nat.{shr-shr, shr_le}
use Rattle.std.proofs.lemmas.Nat.Bits.{bit_at-zero, bit_at-trailing_zeros}
use Rattle.std.specs.Int.{bit_at, w16, trailing_zeros}
use Rattle.buddy_map.proofs.orders.least_from.Goals as goal

shifted : (mask from i : ℕ) → from ≤ i → bit_at mask i ≡ bit_at (mask / 2 ^ from) (i - from)
shifted mask from i fits =
    let all : i ≡ from + (i - from) = omega arith in
    ap (λ (k : ℕ). mask / 2 ^ k % 2) all ∙ ap (λ (x : ℕ). x % 2) (sym (shr-shr mask from (i - from)))

record IsLeast (mask from order : ℕ) : Type 0 where
  above : from ≤ order
  is_set : bit_at mask order ≡ 1
  least : (i : ℕ) → from ≤ i → bit_at mask i ≡ 1 → order ≤ i

least_of : (mask from : ℕ) → mask < 2 ^ 16 → 0 < mask / 2 ^ from → IsLeast mask from (from + trailing_zeros w16 (mask / 2 ^ from))
least_of mask from small some =
    let fitting = mask / 2 ^ from in
    let at = trailing_zeros w16 fitting in
    let found = bit_at-trailing_zeros w16 fitting some (omega (arith, shr_le mask from)) in
    let own : (from + at) - from ≡ at = omega arith in record {
      above = omega arith;
      is_set = shifted mask from (from + at) (omega arith) ∙ ap (λ (k : ℕ). bit_at fitting k) own ∙ found.1;
      least = λ i fits bit. elim (cases_lt (i - from) at) [
        | inl less ↦ absurd (omega (arith, found.2 (i - from) less, sym (shifted mask from i fits) ∙ bit))
        | inr more ↦ omega arith
      ];
    }

pub returns-then-fitting-eq0-clause-none : goal.returns-then-fitting-eq0-clause-none
returns-then-fitting-eq0-clause-none c = λ i fits.
    shifted c.args.mask c.args.from i fits ∙ ap (λ (m : ℕ). bit_at m (i - c.args.from)) c.if-fitting-eq0.true
    ∙ bit_at-zero (i - c.args.from)

pub returns-clause-found : goal.returns-clause-found
returns-clause-found c =
    let found = least_of c.args.mask c.args.from (omega arith) (omega arith) in (found.above, found.is_set)

pub returns-clause-least : goal.returns-clause-least
returns-clause-least c = (least_of c.args.mask c.args.from (omega arith) (omega arith)).least
