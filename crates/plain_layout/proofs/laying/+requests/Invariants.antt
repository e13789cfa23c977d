use Rattle.std.proofs.Common.{length}
use Rattle.plain_layout.proofs.laying.+requests.Given as goal

abbrev pub decreases-requests : goal.decreases-requests
decreases-requests l = length l.needs.now
