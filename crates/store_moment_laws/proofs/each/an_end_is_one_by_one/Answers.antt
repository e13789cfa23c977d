use Rattle.history.specs.Holding.{holds}
use Rattle.store_moment_laws.proofs.EachLemmas.{settled-each, undone-each}
use Rattle.store_moment_laws.proofs.each.an_end_is_one_by_one.Goals as goal

pub returns-clause-committed : goal.returns-clause-committed
returns-clause-committed c = λ session past moment objects. settled-each (λ o. holds session o past) moment objects

pub returns-clause-aborted : goal.returns-clause-aborted
returns-clause-aborted c = λ session past moment objects. undone-each (λ o. holds session o past) moment objects
