use Rattle.written_laws.proofs.written.parts_that_stand_are_written.Goals as goal
use Rattle.written_laws.proofs.MadeLemmas.{stand-written}

pub returns : goal.returns
returns c = stand-written
