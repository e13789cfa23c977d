use Rattle.soundness_laws.proofs.runs.a_run_ends_sound.Goals as goal
use Rattle.soundness_laws.proofs.RunLemmas.{run-ends}

pub returns : goal.returns
returns g c = run-ends g.K.Kind.laid g.K.Kind.good
