use Rattle.written_laws.proofs.written.parts_that_stand_are_made.Goals as goal
use Rattle.written_laws.proofs.MadeLemmas.{stand-made}

pub returns : goal.returns
returns c = stand-made
