use Rattle.moment_laws.proofs.ends.the_end_of_all_keeps_soundness.Goals as goal
use Rattle.moment_laws.proofs.EndLemmas.{sound-all_aborted}

pub returns : goal.returns
returns g c = sound-all_aborted g.K.Kind.good
