use Rattle.std.proofs.Common.{length}
use Rattle.tree_splice.proofs.left.+push_left.Given as goal

abbrev pub decreases-push_left : goal.decreases-push_left
decreases-push_left l = length l.path.now
