use Rattle.read_cost_laws.proofs.TouchedLemmas.{read-cheap}
use Rattle.read_cost_laws.proofs.reads.a_read_is_cheap.Goals as goal

pub returns : goal.returns
returns c = read-cheap
