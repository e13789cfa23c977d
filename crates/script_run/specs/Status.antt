-- The statuses that a run ends with, and their words.
use Rattle.std.specs.Prelude.{◌≡◌, ℕ, ◌⊎◌, ◌==◌, List, Option, Some, None, Result, Ok, Err, codes}
use Rattle.std.specs.Prelude.{if◌then◌else◌}
use Rattle.script_run.specs.declared.failure.Failure.{Failure}
use Rattle.script_run.specs.declared.failure.Failure.TheVariants.{Usage, Input, Output, Long}
use Rattle.script_run.specs.declared.failure.Failure.TheVariants.{Memory}

-- a number for each failure; 0 is left to a run that did all
abbrev pub status_of : Failure → ℕ
status_of Usage = 2
status_of Input = 3
status_of Output = 4
status_of Long = 7
status_of Memory = 8

-- the status of a run
abbrev pub status_of_run : Result Unit Failure → ℕ
status_of_run (Ok done) = 0
status_of_run (Err failure) = status_of failure

-- a status that a run ends with
abbrev pub IsStatus : ℕ → Type 0
IsStatus s = (s ≡ 0) ⊎ ((failure : Failure) × (s ≡ status_of failure))

-- the word of a status
abbrev pub word_of_status : ℕ → Option (List ℕ)
word_of_status s =
    if s == 2 then Some (codes "usage")
    else if s == 3 then Some (codes "input")
    else if s == 4 then Some (codes "output")
    else if s == 7 then Some (codes "long")
    else if s == 8 then Some (codes "memory")
    else None
