use Rattle.std.proofs.Common.{length}
use Rattle.plain_plan.proofs.plan.+made_part_bytes.Given as goal

abbrev pub decreases-made_part_bytes : goal.decreases-made_part_bytes
decreases-made_part_bytes l = length l.parts.now
