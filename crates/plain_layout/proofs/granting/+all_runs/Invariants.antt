use Rattle.std.proofs.Common.{length}
use Rattle.plain_layout.proofs.granting.+all_runs.Given as goal

abbrev pub decreases-all_runs : goal.decreases-all_runs
decreases-all_runs l = length l.requests.now
