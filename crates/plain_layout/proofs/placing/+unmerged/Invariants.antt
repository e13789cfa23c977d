use Rattle.std.proofs.Common.{length}
use Rattle.plain_layout.proofs.placing.+unmerged.Given as goal

abbrev pub decreases-unmerged : goal.decreases-unmerged
decreases-unmerged l = length l.blocks.now
