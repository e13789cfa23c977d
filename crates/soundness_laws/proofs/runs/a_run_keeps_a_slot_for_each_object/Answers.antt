use Rattle.soundness_laws.proofs.runs.a_run_keeps_a_slot_for_each_object.Goals as goal
use Rattle.soundness_laws.proofs.RunLemmas.{run-slots}

pub returns : goal.returns
returns g c = run-slots g.K.Kind.laid
