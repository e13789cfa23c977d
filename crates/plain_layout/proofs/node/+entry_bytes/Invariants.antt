use Rattle.std.proofs.Common.{length}
use Rattle.plain_layout.proofs.node.+entry_bytes.Given as goal

abbrev pub decreases-entry_bytes : goal.decreases-entry_bytes
decreases-entry_bytes l = length l.pairs.now
