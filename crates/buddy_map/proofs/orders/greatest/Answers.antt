-- The leading zeros of a mask give its greatest order.
use Rattle.std.proofs.Common.{inl, inr, ◌≡◌, ℕ, suc, ◌-◌, ◌/◌, ◌^◌, ◌<◌, ◌≤◌, arith}
use Rattle.std.proofs.Math.Nat.{pow-succ'}
use Rattle.std.proofs.lemmas.Bool.{cases_lt}
use Rattle.std.proofs.lemmas.Nat.{pow_pos, leading_top, le-div, div_below}
use Rattle.std.proofs.lemmas.Nat.Bits.{bit_at_above}
use Rattle.std.specs.Int.{bit_at}
use Rattle.std.specs.Int.Count.{count_leading_zeros}
use Rattle.buddy_map.proofs.orders.greatest.Goals as goal

record IsTop (mask order : ℕ) : Type 0 where
  is_set : bit_at mask order ≡ 1
  most : (i : ℕ) → bit_at mask i ≡ 1 → i ≤ order

top : (mask order : ℕ) → 2 ^ order ≤ mask → mask < 2 ^ suc order → IsTop mask order
top mask order low high =
    let some : 1 ≤ mask / 2 ^ order = le-div 1 mask (2 ^ order) (pow_pos order) (omega arith) in
    let few : mask / 2 ^ order < 2 = div_below mask (2 ^ order) 2 (pow_pos order) (omega (arith, pow-succ' 2 order)) in record {
      is_set = omega arith;
      most = λ i bit. elim (cases_lt order i) [
        | inl less ↦ absurd (omega (arith, bit, bit_at_above mask (suc order) i high (omega arith)))
        | inr fits ↦ fits
      ];
    }

-- of sixteen bits
top_of : (mask : ℕ) → 0 < mask → mask < 2 ^ 16 → IsTop mask (15 - count_leading_zeros 16 mask)
top_of mask some small =
    let found = leading_top 16 mask some small in
    let at : 15 - count_leading_zeros 16 mask ≡ found.0 = omega (arith, found.1) in
    rw at (top mask found.0 found.2 found.3)

pub returns-clause-found : goal.returns-clause-found
returns-clause-found c = (top_of c.args.mask (omega arith) (omega arith)).is_set

pub returns-clause-greatest : goal.returns-clause-greatest
returns-clause-greatest c = (top_of c.args.mask (omega arith) (omega arith)).most
