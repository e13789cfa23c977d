-- A step of each recursion on a number, as the code takes it: down to the number before.
use Rattle.std.proofs.Common.{◌≡◌, ◌≢◌, ℕ, zero, suc, ◌+◌, ◌-◌, ◌∷◌, map, replicate, refl, arith}
use Rattle.std.specs.List.{range_with_len}

pub map_range_more : {X : Type 0} (f : ℕ → X) (first count : ℕ) → count ≢ 0 →
    map f (range_with_len first count) ≡ f first ∷ map f (range_with_len (first + 1) (count - 1))
map_range_more f first zero ne = absurd (ne refl)
map_range_more f first (suc n) ne = let e : suc n - 1 ≡ n = omega arith in rw e refl

pub replicate_more : {X : Type 0} (count : ℕ) (x : X) → count ≢ 0 → replicate count x ≡ x ∷ replicate (count - 1) x
replicate_more zero x ne = absurd (ne refl)
replicate_more (suc n) x ne = let e : suc n - 1 ≡ n = omega arith in rw e refl
