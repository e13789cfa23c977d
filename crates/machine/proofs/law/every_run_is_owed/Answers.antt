use Rattle.machine.proofs.Owing.{IsOwedRun-from}
use Rattle.machine.proofs.law.every_run_is_owed.Goals as goal

pub returns : goal.returns
returns c = IsOwedRun-from
