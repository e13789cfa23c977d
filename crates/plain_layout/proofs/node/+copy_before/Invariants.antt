use Rattle.std.proofs.Common.{length}
use Rattle.plain_layout.proofs.node.+copy_before.Given as goal

abbrev pub decreases-copy_before : goal.decreases-copy_before
decreases-copy_before l = length l.nodes.now
