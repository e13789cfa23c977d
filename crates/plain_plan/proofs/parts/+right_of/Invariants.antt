use Rattle.std.proofs.Common.{length}
use Rattle.plain_plan.proofs.parts.+right_of.Given as goal

abbrev pub decreases-right_of : goal.decreases-right_of
decreases-right_of l = length l.entries.now
