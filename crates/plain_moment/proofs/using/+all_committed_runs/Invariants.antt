use Rattle.std.proofs.Common.{length}
use Rattle.plain_moment.proofs.using.+all_committed_runs.Given as goal

abbrev pub decreases-all_committed_runs : goal.decreases-all_committed_runs
decreases-all_committed_runs l = length l.moment.now
