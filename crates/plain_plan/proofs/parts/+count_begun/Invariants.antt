use Rattle.std.proofs.Common.{length}
use Rattle.plain_plan.proofs.parts.+count_begun.Given as goal

abbrev pub decreases-count_begun : goal.decreases-count_begun
decreases-count_begun l = length l.entries.now
