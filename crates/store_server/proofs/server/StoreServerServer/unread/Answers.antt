-- A command that couldn't be read leaves all as it is.
use Rattle.store_server.proofs.StepLemmas.{step-unread}
use Rattle.store_server.proofs.server.StoreServerServer.unread.Goals as goal

pub returns-clause-step : goal.returns-clause-step
returns-clause-step g c = λ command brings. step-unread _ _ _ _ _ _ _ command c.requires.from_one c.requires.upto c.requires.ready brings
