use Rattle.machine.specs.Machine.{fresh}
use Rattle.machine.proofs.Caused.{AllCaused-fresh}
use Rattle.store_laws.proofs.StepLemmas.{owed-run}
use Rattle.store_laws.proofs.steps.owed_steps_have_their_causes.Goals as goal

pub returns : goal.returns
returns c = λ n db last past steps short. AllCaused-fresh n db past (owed-run (fresh n db) last past steps).0 short
