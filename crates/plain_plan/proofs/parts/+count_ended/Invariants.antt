use Rattle.std.proofs.Common.{length}
use Rattle.plain_plan.proofs.parts.+count_ended.Given as goal

abbrev pub decreases-count_ended : goal.decreases-count_ended
decreases-count_ended l = length l.entries.now
