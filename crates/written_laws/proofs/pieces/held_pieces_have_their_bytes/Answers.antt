use Rattle.written_laws.proofs.pieces.held_pieces_have_their_bytes.Goals as goal
use Rattle.written_laws.proofs.PieceLemmas.{held-whole}

pub returns : goal.returns
returns c = held-whole
