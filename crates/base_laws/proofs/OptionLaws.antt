-- What an optional value is.
use Rattle.std.proofs.Common.{◌≡◌, ℕ, ◌≤◌, Bool, true, false, List, [], length, Option, Some, None, IfSome, IsSome, is_some, refl, arith}
use Rattle.std.specs.Prelude.{if◌then◌else◌, unwrap_or}

-- the value of a `Some`
pub some-inner : {A : Type 0} (x y : A) → Some x ≡ Some y → x ≡ y
some-inner x y same = cc

-- none, by the test
pub none-unless : {A : Type 0} (o : Option A) → is_some o ≡ false → o ≡ None
none-unless None h = refl
none-unless (Some a) h = absurd cc

-- some, by the test
pub some-if : {A : Type 0} (o : Option A) → is_some o ≡ true → (a : A) × (o ≡ Some a)
some-if None h = absurd cc
some-if (Some a) h = (a, refl)

-- none, where a value is impossible
pub none-of : {A : Type 0} (o : Option A) → (IsSome o → ⊥) → o ≡ None
none-of None none = refl
none-of (Some a) none = absurd (none refl)

-- a list that is there has just so many items, so what stands for it has no more
pub within-size : {X : Type 0} (size : ℕ) (page : Option (List X)) → IfSome page (λ items. length items ≡ size) →
    length (unwrap_or page []) ≤ size
within-size size None sized = omega arith
within-size size (Some items) sized = omega (arith, sized)

-- two branches that are the same
pub same_branches : {A : Type 0} (b : Bool) (x : A) → (if b then x else x) ≡ x
same_branches true x = refl
same_branches false x = refl
