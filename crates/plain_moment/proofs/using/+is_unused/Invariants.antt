use Rattle.std.proofs.Common.{length}
use Rattle.plain_moment.proofs.using.+is_unused.Given as goal

abbrev pub decreases-is_unused : goal.decreases-is_unused
decreases-is_unused l = length l.runs.now
