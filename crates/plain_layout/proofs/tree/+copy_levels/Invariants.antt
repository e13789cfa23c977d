use Rattle.std.proofs.Common.{length}
use Rattle.plain_layout.proofs.tree.+copy_levels.Given as goal

abbrev pub decreases-copy_levels : goal.decreases-copy_levels
decreases-copy_levels l = length l.levels.now
