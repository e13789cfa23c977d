use Rattle.std.proofs.Common.{length}
use Rattle.plain_moment.proofs.using.+all_working_runs.Given as goal

abbrev pub decreases-all_working_runs : goal.decreases-all_working_runs
decreases-all_working_runs l = length l.moment.now
