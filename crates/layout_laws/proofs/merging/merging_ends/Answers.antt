use Rattle.layout_laws.proofs.merging.merging_ends.Goals as goal
use Rattle.layout_laws.proofs.MergingLemmas.{pack-apart}

pub returns : goal.returns
returns c = pack-apart
