use Rattle.std.proofs.Common.{length}
use Rattle.plain_layout.proofs.laying.+pages_of.Given as goal

abbrev pub decreases-pages_of : goal.decreases-pages_of
decreases-pages_of l = length l.bytes.now
