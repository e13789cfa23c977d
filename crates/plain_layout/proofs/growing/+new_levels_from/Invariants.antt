use Rattle.std.proofs.Common.{length}
use Rattle.plain_layout.proofs.growing.+new_levels_from.Given as goal

abbrev pub decreases-new_levels_from : goal.decreases-new_levels_from
decreases-new_levels_from l = length l.old.now
