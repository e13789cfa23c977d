use Rattle.std.proofs.Common.{length}
use Rattle.plain_layout.proofs.laying.+laid_parts.Given as goal

abbrev pub decreases-laid_parts : goal.decreases-laid_parts
decreases-laid_parts l = length l.parts.now
