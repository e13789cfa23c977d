use Rattle.length_laws.proofs.LengthLemmas.{laid-length}
use Rattle.length_laws.proofs.lengths.a_laid_change_has_its_length.Goals as goal

pub returns : goal.returns
returns c = laid-length
