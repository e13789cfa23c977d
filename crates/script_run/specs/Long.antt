-- What is too long to be run.
use Rattle.std.specs.Prelude.{ℕ, ◌<◌, ◌⊎◌, List, IsTrue, length}
use Rattle.script_model.specs.declared.limits.TheConstants.{MAX_SCRIPT}
use Rattle.script_model.specs.Transcript.{script_lines, has_long_line}

-- the script has more bytes than a script may have, or a line that has more than a line may have
abbrev pub IsLong : List ℕ → Type 0
IsLong input = (MAX_SCRIPT < length input) ⊎ IsTrue (has_long_line (script_lines input))
