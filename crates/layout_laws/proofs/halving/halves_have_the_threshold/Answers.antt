use Rattle.layout_laws.proofs.halving.halves_have_the_threshold.Goals as goal
use Rattle.layout_laws.proofs.HalvingLemmas.{halved-halves}

pub returns : goal.returns
returns c = halved-halves
