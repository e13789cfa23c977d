-- After a refusal the piece that was read last is gone too.
use Rattle.edge_io.proofs.MovedLemmas.{GaveFront-more}
use Rattle.edge_io.proofs.read.read_all.Goals as goal

pub returns-then-count-limit-clause-gone : goal.returns-then-count-limit-clause-gone
returns-then-count-limit-clause-gone g c = (_, GaveFront-more _ _ _ _ _ _ c.loop-count.invariant.front c.in-Ok.ensures.moves)

pub returns-in-Err-extend_from_slice-clause-gone : goal.returns-in-Err-extend_from_slice-clause-gone
returns-in-Err-extend_from_slice-clause-gone g c = (_, GaveFront-more _ _ _ _ _ _ c.loop-count.invariant.front c.in-Ok.ensures.moves)
