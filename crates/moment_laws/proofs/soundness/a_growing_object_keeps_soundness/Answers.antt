use Rattle.moment_laws.proofs.soundness.a_growing_object_keeps_soundness.Goals as goal
use Rattle.moment_laws.proofs.ChangeLemmas.{sound-grown}

pub returns : goal.returns
returns g c = sound-grown g.K.Kind.good
