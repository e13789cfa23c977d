use Rattle.model_cli.proofs.StepLemmas.{first-store}
use Rattle.model_cli.proofs.server.ModelServer.new.Goals as goal

pub returns-in-Ok-clause-first : goal.returns-in-Ok-clause-first
returns-in-Ok-clause-first c = first-store c.in-Ok.store _ _ _ c.in-Ok.ensures.numbers c.in-Ok.ensures.machine c.in-Ok.ensures.moment
