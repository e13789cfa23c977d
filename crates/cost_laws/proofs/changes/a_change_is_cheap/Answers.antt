use Rattle.cost_laws.proofs.CheapLemmas.{change-cheap}
use Rattle.cost_laws.proofs.changes.a_change_is_cheap.Goals as goal

pub returns : goal.returns
returns c = change-cheap
