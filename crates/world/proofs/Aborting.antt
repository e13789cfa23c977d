-- Sessions that abort what they have open, one after the other.
use Rattle.std.proofs.Common.{◌≡◌, ℕ, zero, suc, ◌+◌, refl, ap, arith}
use Rattle.machine.specs.Machine.{Machine}
use Rattle.world.specs.Ending.{aborted, machine_aborted}

-- no session so far
pub machine_aborted-none : (n : ℕ) (m : Machine) → n ≡ 0 → m ≡ machine_aborted n m
unfolding machine_aborted
machine_aborted-none zero m none = refl
machine_aborted-none (suc n) m none = absurd (omega (arith, none))

-- one session more
pub machine_aborted-more : (n k : ℕ) (m : Machine) → k ≡ n + 1 → machine_aborted k m ≡ aborted k (machine_aborted n m)
unfolding machine_aborted
machine_aborted-more n zero m next = absurd (omega (arith, next))
machine_aborted-more n (suc k) m next =
    let same : k ≡ n = omega (arith, next) in
    ap (λ i. aborted (suc k) (machine_aborted i m)) same
