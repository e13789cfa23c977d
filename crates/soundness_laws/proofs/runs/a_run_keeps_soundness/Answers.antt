use Rattle.soundness_laws.proofs.runs.a_run_keeps_soundness.Goals as goal
use Rattle.soundness_laws.proofs.RunLemmas.{run-sound}

pub returns : goal.returns
returns g c = run-sound g.K.Kind.laid g.K.Kind.good
