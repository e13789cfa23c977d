use Rattle.std.proofs.Common.{length}
use Rattle.machine.specs.Machine.{database}
use Rattle.machine.specs.Runs.{state_after}
use Rattle.machine.proofs.Replying.{MayRun-from}
use Rattle.machine.proofs.Soundness.{Sound-run, Sound-serial}
use Rattle.machine.proofs.law.every_run_is_serial.Goals as goal

pub returns : goal.returns
returns c = λ m past rest run. Sound-serial (database m) past (state_after m past) (length m.seats)
    (Sound-run m past rest (MayRun-from m past run))
