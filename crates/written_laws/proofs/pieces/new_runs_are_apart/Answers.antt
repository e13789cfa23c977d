use Rattle.written_laws.proofs.pieces.new_runs_are_apart.Goals as goal
use Rattle.written_laws.proofs.PieceLemmas.{runs-apart}

pub returns : goal.returns
returns c = runs-apart
