-- A run's end by its failure, and by the status that stands for it.
use Rattle.std.proofs.Common.{◌≡◌, ◌⊎◌, ℕ, List, Option, Some, None, inl, inr, Result, Ok, Err, refl, sym, ap, ◌∙◌}
use Rattle.std.specs.Prelude.{◌==◌, if◌then◌else◌}
use Rattle.script_run.specs.declared.failure.Failure.{Failure}
use Rattle.script_run.specs.declared.failure.Failure.TheVariants.{Usage, Input, Output, Long, Memory}
use Rattle.script_run.specs.Status.{status_of, status_of_run}
use Rattle.script_run.specs.Ends.{TellsLong, LeavesCut}

-- the failure that a status stands for
abbrev failure_at : ℕ → Option Failure
failure_at s =
    if s == 2 then Some Usage
    else if s == 3 then Some Input
    else if s == 4 then Some Output
    else if s == 7 then Some Long
    else if s == 8 then Some Memory
    else None

at-failure : (f : Failure) → failure_at (status_of f) ≡ Some f
at-failure Usage = refl
at-failure Input = refl
at-failure Output = refl
at-failure Long = refl
at-failure Memory = refl

-- a run that ends with the status of a failure ended with that failure
pub status-ended : (r : Result Unit Failure) (f : Failure) → status_of_run r ≡ status_of f → r ≡ Err f
status-ended (Err e) f h = let same : Some e ≡ Some f = sym (at-failure e) ∙ ap failure_at h ∙ at-failure f in cc
status-ended (Ok done) f h = let clash : None ≡ Some f = ap failure_at h ∙ at-failure f in absurd (cc clash)

-- what an early end says is said of each way to speak of its failure
pub tells-as : (ended other : Failure → Type 0) (script : Option (List ℕ)) → ((f : Failure) → other f → ended f) →
    TellsLong ended script → TellsLong other script
tells-as ended other script as_ended tells = record {
  long = λ h. tells.long (as_ended Long h);
  fits = λ h. tells.fits (as_ended Output h);
}

pub leaves-as : (ended other : Failure → Type 0) (short given_up : Type 0) (left left' written written' : Option (List ℕ)) →
    ((f : Failure) → other f → ended f) → LeavesCut ended short given_up left left' written written' →
    LeavesCut other short given_up left left' written written'
leaves-as ended other short given_up left left' written written' as_ended leaves = record {
  unread = λ h. leaves.unread (as_ended Usage h);
  silent = λ h. leaves.silent (elim h [
    | inl usage ↦ inl (as_ended Usage usage)
    | inr more ↦ inr (elim more [
      | inl input ↦ inl (as_ended Input input)
      | inr long ↦ inr (as_ended Long long)
    ])
  ]);
  cut = λ h. leaves.cut (as_ended Output h);
  memory = λ h. leaves.memory (as_ended Memory h);
}
