use Rattle.moment_laws.proofs.soundness.free_pages_after_a_change.Goals as goal
use Rattle.moment_laws.proofs.ChangeLemmas.{is_free-after}

pub returns : goal.returns
returns g c = is_free-after g.K.Kind.good
