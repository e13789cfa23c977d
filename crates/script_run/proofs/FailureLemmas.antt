-- What stands after a run by its failure.
use Rattle.std.proofs.Common.{◌≡◌, ◌⊎◌, inl, inr, Result, Ok, Err}
use Rattle.std.specs.Prelude.{IfErr}
use Rattle.script_run.specs.declared.failure.Failure.{Failure}
use Rattle.script_run.specs.declared.failure.Failure.TheVariants.{Output, Memory}

-- a failure of the sink
pub after_output : (A B : Type 0) (r : Result Unit Failure) → IfErr r (λ failure. A ⊎ ((failure ≡ Memory) × B)) → r ≡ Err Output → A
after_output A B r broken same = elim (rw same at broken) [
  | inl cut ↦ cut
  | inr stopped ↦ absurd (cc stopped.0)
]

-- want of memory
pub after_memory : (A B : Type 0) (r : Result Unit Failure) → IfErr r (λ failure. A ⊎ ((failure ≡ Memory) × B)) → r ≡ Err Memory → A ⊎ B
after_memory A B r broken same = elim (rw same at broken) [
  | inl cut ↦ inl cut
  | inr stopped ↦ inr stopped.1
]
