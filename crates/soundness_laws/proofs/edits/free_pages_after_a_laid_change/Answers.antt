use Rattle.soundness_laws.proofs.edits.free_pages_after_a_laid_change.Goals as goal
use Rattle.soundness_laws.proofs.EditLemmas.{free-after_change}

pub returns : goal.returns
returns c = free-after_change
