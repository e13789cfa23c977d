-- The leading zeros of n - 1 give its greatest binary digit, and n lies above that and at most at the next.
use Rattle.std.proofs.Common.{◌≡◌, ℕ, ◌-◌, ◌^◌, ◌<◌, ◌≤◌, arith, subst, sym, suc, inl, inr}
use Rattle.std.proofs.Math.Pow.{pow_mono}
use Rattle.std.proofs.lemmas.Nat.{leading_top}
use Rattle.std.proofs.lemmas.Bool.{cases_lt}
use Rattle.block_model.specs.Block.{IsOrder}
use Rattle.block_model.proofs.order.order_of.Goals as goal

order_above : (n j order : ℕ) → order ≡ suc j → 2 ^ j < n → n ≤ 2 ^ suc j → IsOrder n order
order_above n j order e low high = record {
  holds = subst (λ (k : ℕ). n ≤ 2 ^ k) (sym e) high;
  least = λ i fits. elim (cases_lt i (suc j)) [
    | inl less ↦ let more : 2 ^ i ≤ 2 ^ j = pow_mono (omega arith) in absurd (omega arith)
    | inr ge ↦ omega arith
  ];
}

pub returns : goal.returns
returns c =
    let top = leading_top 32 (c.args.n - 1) (omega arith) (omega arith) in
    order_above c.args.n top.0 _ (omega (arith, top.1)) (omega (arith, top.2)) (omega (arith, top.3))
