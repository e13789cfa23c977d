use Rattle.machine.specs.Machine.{fresh}
use Rattle.machine.proofs.Caused.{AllCaused-fresh}
use Rattle.machine.proofs.Owing.{IsOwedRun-from}
use Rattle.machine.proofs.law.every_reply_has_its_cause.Goals as goal

pub returns : goal.returns
returns c = λ n db past run short. AllCaused-fresh n db past (IsOwedRun-from (fresh n db) past run) short
