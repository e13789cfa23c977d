use Rattle.machine.proofs.Caused.{AllCaused-fresh}
use Rattle.machine.proofs.law.every_owed_reply_has_its_cause.Goals as goal

pub returns : goal.returns
returns c = AllCaused-fresh
