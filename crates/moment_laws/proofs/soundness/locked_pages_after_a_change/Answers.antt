use Rattle.moment_laws.proofs.soundness.locked_pages_after_a_change.Goals as goal
use Rattle.moment_laws.proofs.ChangeLemmas.{is_locked-after}

pub returns : goal.returns
returns g c = is_locked-after g.K.Kind.good
