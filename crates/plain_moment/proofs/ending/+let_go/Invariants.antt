use Rattle.std.proofs.Common.{length}
use Rattle.plain_moment.proofs.ending.+let_go.Given as goal

abbrev pub decreases-let_go : goal.decreases-let_go
decreases-let_go l = length l.holders.now
