use Rattle.std.proofs.Common.{length}
use Rattle.plain_moment.proofs.version.+level_runs.Given as goal

abbrev pub decreases-level_runs : goal.decreases-level_runs
decreases-level_runs l = length l.levels.now
