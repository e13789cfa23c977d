use Rattle.cost_laws.proofs.MetLemmas.{met-few}
use Rattle.cost_laws.proofs.segments.few_segments_are_met.Goals as goal

pub returns : goal.returns
returns c = met-few
