use Rattle.std.proofs.Common.{length}
use Rattle.plain_layout.proofs.node.+pairs_of_level.Given as goal

abbrev pub decreases-pairs_of_level : goal.decreases-pairs_of_level
decreases-pairs_of_level l = length l.nodes.now
