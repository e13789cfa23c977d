use Rattle.std.proofs.Common.{length}
use Rattle.plain_layout.proofs.spaces.+copy_rows.Given as goal

abbrev pub decreases-copy_rows : goal.decreases-copy_rows
decreases-copy_rows l = length l.rows.now
