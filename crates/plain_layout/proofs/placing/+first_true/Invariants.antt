use Rattle.std.proofs.Common.{length}
use Rattle.plain_layout.proofs.placing.+first_true.Given as goal

abbrev pub decreases-first_true : goal.decreases-first_true
decreases-first_true l = length l.tests.now
