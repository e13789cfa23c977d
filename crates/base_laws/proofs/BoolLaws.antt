-- What tests give, one after another.
use Rattle.std.proofs.Common.{◌≡◌, ◌||◌, Bool, true, false, IsTrue, refl}

pub or-assoc : (a b d : Bool) → (a || (b || d)) ≡ ((a || b) || d)
or-assoc true b d = refl
or-assoc false b d = refl

-- false, where it can't be true
pub never-true : (b : Bool) → (IsTrue b → ⊥) → b ≡ false
never-true true never = absurd (never refl)
never-true false never = refl
