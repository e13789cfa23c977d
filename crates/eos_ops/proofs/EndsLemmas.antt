-- The last stamp of a list of ends.
use Rattle.std.proofs.Common.{◌≡◌, ℕ, zero, suc, ◌+◌, ◌-◌, ◌<◌, ◌≤◌, ◌^◌, List, [], ◌∷◌, ◌++◌, length, slice_get, Some, refl, ap, arith}
use Rattle.std.proofs.lemmas.List.{length_push}
use Rattle.eos_ops.specs.declared.end.End.{End}
use Rattle.eos_ops.specs.Ends.{last_stamp_of, AreAges}

-- of one end more
pub last_stamp_of-push : (ends : List End) (e : End) → last_stamp_of (ends ++ e ∷ []) ≡ e.stamp
last_stamp_of-push [] e = refl
last_stamp_of-push (f ∷ []) e = refl
last_stamp_of-push (f ∷ g ∷ ends) e = last_stamp_of-push (g ∷ ends) e

-- of the end at the last place
pub last_stamp_of-at : (ends : List End) (i : ℕ) (e : End) → i + 1 ≡ length ends → slice_get ends i ≡ Some e → last_stamp_of ends ≡ e.stamp
last_stamp_of-at [] i e last found = absurd cc
last_stamp_of-at (f ∷ []) zero e last found = let same : f ≡ e = cc in ap (λ (k : End). k.stamp) same
last_stamp_of-at (f ∷ []) (suc i) e last found = absurd (omega arith)
last_stamp_of-at (f ∷ g ∷ ends) zero e last found = absurd (omega arith)
last_stamp_of-at (f ∷ g ∷ ends) (suc i) e last found = last_stamp_of-at (g ∷ ends) i e (omega arith) found

pub last_stamp_of-last : (ends : List End) (e : End) → 0 < length ends → slice_get ends (length ends - 1) ≡ Some e →
    last_stamp_of ends ≡ e.stamp
last_stamp_of-last ends e some found = last_stamp_of-at ends (length ends - 1) e (omega arith) found

-- one end more, of a later stamp
pub AreAges-push : (ends : List End) (e : End) → AreAges ends → last_stamp_of ends < e.stamp → e.stamp ≤ 2 ^ 62 → AreAges (ends ++ e ∷ [])
AreAges-push ends e ages above within = record {
  within = omega (arith, last_stamp_of-push ends e);
  few = omega (arith, last_stamp_of-push ends e, length_push ends e, ages.few);
}
