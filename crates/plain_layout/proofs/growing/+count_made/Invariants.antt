use Rattle.std.proofs.Common.{length}
use Rattle.plain_layout.proofs.growing.+count_made.Given as goal

abbrev pub decreases-count_made : goal.decreases-count_made
decreases-count_made l = length l.levels.now
