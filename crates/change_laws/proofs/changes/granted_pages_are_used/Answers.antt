use Rattle.change_laws.proofs.changes.granted_pages_are_used.Goals as goal
use Rattle.change_laws.proofs.ChangeLemmas.{granted-used}

pub returns : goal.returns
returns c = granted-used
