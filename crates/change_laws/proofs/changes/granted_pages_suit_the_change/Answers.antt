use Rattle.change_laws.proofs.changes.granted_pages_suit_the_change.Goals as goal
use Rattle.change_laws.proofs.SuitLemmas.{granted-suits}

pub returns : goal.returns
returns c = granted-suits
