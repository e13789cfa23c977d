use Rattle.store_laws.proofs.StepLemmas.{told-run}
use Rattle.store_laws.proofs.steps.told_steps_make_a_run.Goals as goal

pub returns : goal.returns
returns c = told-run
