use Rattle.store_laws.proofs.StepLemmas.{told-serial}
use Rattle.store_laws.proofs.steps.told_steps_are_serial.Goals as goal

pub returns : goal.returns
returns c = told-serial
