use Rattle.store_laws.proofs.StepLemmas.{told-owed}
use Rattle.store_laws.proofs.steps.told_steps_are_owed.Goals as goal

pub returns : goal.returns
returns c = told-owed
