use Rattle.std.proofs.Common.{length}
use Rattle.plain_layout.proofs.placing.+halves.Given as goal

abbrev pub decreases-halves : goal.decreases-halves
decreases-halves l = length l.blocks.now
