use Rattle.std.proofs.Common.{length}
use Rattle.plain_moment.proofs.counting.+count_rows.Given as goal

abbrev pub decreases-count_rows : goal.decreases-count_rows
decreases-count_rows l = length l.rows.now
