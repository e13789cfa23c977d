use Rattle.std.proofs.Common.{length}
use Rattle.plain_plan.proofs.packing.+pack_from.Given as goal

abbrev pub decreases-pack_from : goal.decreases-pack_from
decreases-pack_from l = length l.after.now
