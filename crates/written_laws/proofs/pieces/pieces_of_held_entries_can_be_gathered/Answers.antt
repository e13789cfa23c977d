use Rattle.written_laws.proofs.pieces.pieces_of_held_entries_can_be_gathered.Goals as goal
use Rattle.written_laws.proofs.PieceLemmas.{entries-gather}

pub returns : goal.returns
returns c = entries-gather
