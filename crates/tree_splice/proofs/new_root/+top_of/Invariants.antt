use Rattle.std.proofs.Common.{length}
use Rattle.tree_splice.proofs.new_root.+top_of.Given as goal

abbrev pub decreases-top_of : goal.decreases-top_of
decreases-top_of l = length l.levels.now
