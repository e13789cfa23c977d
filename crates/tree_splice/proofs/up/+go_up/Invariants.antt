use Rattle.std.proofs.Common.{length}
use Rattle.tree_splice.proofs.up.+go_up.Given as goal

abbrev pub decreases-go_up : goal.decreases-go_up
decreases-go_up l = length l.above.now
