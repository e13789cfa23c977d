use Rattle.store_laws.proofs.LengthLemmas.{steps-lengths}
use Rattle.store_laws.proofs.lengths.a_run_keeps_lengths.Goals as goal

pub returns : goal.returns
returns g c = steps-lengths g.K.Kind.laid g.K.Kind.good
