use Rattle.std.proofs.Common.{length}
use Rattle.plain_moment.proofs.version.+segment_runs.Given as goal

abbrev pub decreases-segment_runs : goal.decreases-segment_runs
decreases-segment_runs l = length l.pairs.now
