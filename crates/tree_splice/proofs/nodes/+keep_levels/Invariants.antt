use Rattle.std.proofs.Common.{length}
use Rattle.tree_splice.proofs.nodes.+keep_levels.Given as goal

abbrev pub decreases-keep_levels : goal.decreases-keep_levels
decreases-keep_levels l = length l.levels.now
