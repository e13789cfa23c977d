-- What a run that ended early says of its script, and what it leaves. `ended` says of each failure
-- what it is that the run ended with it.
use Rattle.std.specs.Prelude.{◌≡◌, ℕ, ◌⊎◌, List, Option, IfSome}
use Rattle.script_run.specs.declared.failure.Failure.{Failure}
use Rattle.script_run.specs.declared.failure.Failure.TheVariants.{Usage, Input, Output, Long}
use Rattle.script_run.specs.declared.failure.Failure.TheVariants.{Memory}
use Rattle.script_run.specs.Long.{IsLong}

-- The run ended for too long a script only where the script is too long, and where it ended with
-- the sink's failure the script is not.
pub record TellsLong (ended : Failure → Type 0) (script : Option (List ℕ)) : Type 0 where
  pub long : ended Long → IfSome script IsLong
  pub fits : ended Output → IfSome script (λ bytes. IsLong bytes → ⊥)

-- After a failure of the words nothing was read and nothing written; after one before the first
-- line nothing was written. After a failure of the sink the output is cut short. Where memory was
-- wanting nothing was written, or the output is cut short or stands as where the server gave up.
pub record LeavesCut (ended : Failure → Type 0) (short given_up : Type 0)
    (left left' written written' : Option (List ℕ)) : Type 0 where
  pub unread : ended Usage → left' ≡ left
  pub silent : ended Usage ⊎ (ended Input ⊎ ended Long) → written' ≡ written
  pub cut : ended Output → short
  pub memory : ended Memory → (written' ≡ written) ⊎ (short ⊎ given_up)
