use Rattle.std.proofs.Common.{length}
use Rattle.plain_plan.proofs.plan.+ends_kept.Given as goal

abbrev pub decreases-ends_kept : goal.decreases-ends_kept
decreases-ends_kept l = length l.parts.now
