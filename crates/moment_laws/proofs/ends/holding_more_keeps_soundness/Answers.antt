use Rattle.moment_laws.proofs.ends.holding_more_keeps_soundness.Goals as goal
use Rattle.moment_laws.proofs.EndLemmas.{sound-held_more}

pub returns : goal.returns
returns g c = sound-held_more g.K.Kind.good
