use Rattle.std.proofs.Common.{length}
use Rattle.plain_layout.proofs.laying.+spare_behind.Given as goal

abbrev pub decreases-spare_behind : goal.decreases-spare_behind
decreases-spare_behind l = length l.bytes.now
