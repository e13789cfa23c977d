-- The last entry of some.
use Rattle.std.proofs.Common.{◌≡◌, ℕ, zero, suc, List, [], ◌∷◌, length, Some, arith}
use Rattle.std.specs.Prelude.{slice_get}
use Rattle.base_laws.proofs.OptionLaws.{some-inner}
use Rattle.tree_model.specs.declared.entry.Pair.{Pair}
use Rattle.layout_model.specs.Plan.{last_entry}

pub last-is : (entries : List Pair) (k : ℕ) (p : Pair) → length entries ≡ suc k → slice_get entries k ≡ Some p → last_entry entries ≡ p
last-is [] k p long here = absurd (omega (arith, long))
last-is (x ∷ []) zero p long here = some-inner x p here
last-is (x ∷ []) (suc k) p long here = absurd (omega (arith, long))
last-is (x ∷ y ∷ rest) zero p long here = absurd (omega (arith, long))
last-is (x ∷ y ∷ rest) (suc k) p long here = last-is (y ∷ rest) k p (omega (arith, long)) here
