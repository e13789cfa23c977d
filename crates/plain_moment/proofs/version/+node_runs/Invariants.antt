use Rattle.std.proofs.Common.{length}
use Rattle.plain_moment.proofs.version.+node_runs.Given as goal

abbrev pub decreases-node_runs : goal.decreases-node_runs
decreases-node_runs l = length l.nodes.now
