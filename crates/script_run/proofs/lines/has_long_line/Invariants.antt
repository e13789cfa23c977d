use Rattle.std.proofs.Common.{◌≡◌, length}
use Rattle.script_model.specs.Transcript.{script_lines, has_long_line}
use Rattle.script_run.proofs.lines.has_long_line.Given as goal

abbrev pub invariant-lines : goal.invariant-lines
invariant-lines l = has_long_line (script_lines l.rest) ≡ has_long_line (script_lines l.fn.script)

abbrev pub decreases-lines : goal.decreases-lines
decreases-lines l = length l.rest
