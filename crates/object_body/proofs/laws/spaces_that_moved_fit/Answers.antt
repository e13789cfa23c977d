use Rattle.object_body.proofs.laws.spaces_that_moved_fit.Goals as goal
use Rattle.object_body.proofs.MoveLemmas.{fits-after, untouched-moves}

pub returns-clause-fits : goal.returns-clause-fits
returns-clause-fits c = fits-after

pub returns-clause-untouched : goal.returns-clause-untouched
returns-clause-untouched c = untouched-moves
