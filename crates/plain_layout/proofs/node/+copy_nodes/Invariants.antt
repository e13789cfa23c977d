use Rattle.std.proofs.Common.{length}
use Rattle.plain_layout.proofs.node.+copy_nodes.Given as goal

abbrev pub decreases-copy_nodes : goal.decreases-copy_nodes
decreases-copy_nodes l = length l.nodes.now
