use Rattle.moment_laws.proofs.ends.an_end_keeps_soundness.Goals as goal
use Rattle.moment_laws.proofs.EndLemmas.{sound-settled, sound-undone}
use Rattle.history.specs.Holding.{holds}

pub returns-clause-committed : goal.returns-clause-committed
returns-clause-committed g c = λ n held session past moment. sound-settled g.K.Kind.good n held (λ o. holds session o past) moment

pub returns-clause-aborted : goal.returns-clause-aborted
returns-clause-aborted g c = λ n held session past moment. sound-undone g.K.Kind.good n held (λ o. holds session o past) moment
