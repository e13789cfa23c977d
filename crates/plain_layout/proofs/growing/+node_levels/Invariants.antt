use Rattle.std.proofs.Common.{length}
use Rattle.plain_layout.proofs.growing.+node_levels.Given as goal

abbrev pub decreases-node_levels : goal.decreases-node_levels
decreases-node_levels l = length l.levels.now
