use Rattle.std.proofs.Common.{◌≡◌, drop}
use Rattle.object_change.specs.Steps.{first_made}
use Rattle.object_change.proofs.writing.first_made.Given as goal

-- none of the parts that were passed is made
abbrev pub invariant-loop-part : goal.invariant-loop-part
invariant-loop-part l = first_made l.parts ≡ first_made (drop l.part-index l.parts)
