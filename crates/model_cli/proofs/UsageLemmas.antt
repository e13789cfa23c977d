-- Words that are a store's, and an answer that isn't of the usage.
use Rattle.std.proofs.Common.{◌≡◌, ◌⊎◌, ◌↔◌, ℕ, List, inl, inr, Result, Ok, Err}
use Rattle.std.specs.Prelude.{IfErr}
use Rattle.geometry_model.specs.Numbers.{Numbers}
use Rattle.script_run.specs.declared.failure.Failure.{Failure}
use Rattle.script_run.specs.declared.failure.Failure.TheVariants.{Usage, Input, Output, Long, Memory}
use Rattle.model_cli.specs.Words.{AreStore}

pub not-usage : {A : Type 0} (words : List (List ℕ)) (n : Numbers) (r : Result A Failure) → AreStore words n →
    (r ≡ Err Usage → ⊥) → (r ≡ Err Usage) ↔ ((m : Numbers) → AreStore words m → ⊥)
not-usage words n r are other = (λ same m is. other same, λ never. absurd (never n are))

-- a failure of reading is none of the words, and neither is one of running
pub read-not-usage : (f : Failure) → (f ≡ Input) ⊎ ((f ≡ Long) ⊎ (f ≡ Memory)) → f ≡ Usage → ⊥
read-not-usage f (inl is) same = absurd (cc is)
read-not-usage f (inr (inl is)) same = absurd (cc is)
read-not-usage f (inr (inr is)) same = absurd (cc is)

run-failure : (f : Failure) → (f ≡ Output) ⊎ (f ≡ Memory) → f ≡ Usage → ⊥
run-failure f (inl is) same = absurd (cc is)
run-failure f (inr is) same = absurd (cc is)

pub run-not-usage : {A : Type 0} (r : Result A Failure) → IfErr r (λ f. (f ≡ Output) ⊎ (f ≡ Memory)) → r ≡ Err Usage → ⊥
run-not-usage (Ok v) others same = absurd (cc)
run-not-usage (Err f) others same = let is : f ≡ Usage = cc in run-failure f others is
