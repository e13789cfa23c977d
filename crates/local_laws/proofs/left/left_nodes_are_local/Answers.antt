use Rattle.local_laws.proofs.LeftLemmas.{left-local}
use Rattle.local_laws.proofs.left.left_nodes_are_local.Goals as goal

pub returns : goal.returns
returns c = left-local
