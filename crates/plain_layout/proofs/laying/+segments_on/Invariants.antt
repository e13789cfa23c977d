use Rattle.std.proofs.Common.{length}
use Rattle.plain_layout.proofs.laying.+segments_on.Given as goal

abbrev pub decreases-segments_on : goal.decreases-segments_on
decreases-segments_on l = length l.runs.now
