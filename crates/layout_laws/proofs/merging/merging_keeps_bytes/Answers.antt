use Rattle.layout_laws.proofs.merging.merging_keeps_bytes.Goals as goal
use Rattle.layout_laws.proofs.MergingLemmas.{pack-bytes}

pub returns : goal.returns
returns c = pack-bytes
