use Rattle.std.proofs.Common.{length}
use Rattle.plain_moment.proofs.ending.+ended_from.Given as goal

abbrev pub decreases-ended_from : goal.decreases-ended_from
decreases-ended_from l = length l.slots.now
