use Rattle.std.proofs.Common.{length}
use Rattle.plain_plan.proofs.parts.+head_of.Given as goal

abbrev pub decreases-head_of : goal.decreases-head_of
decreases-head_of l = length l.entries.now
