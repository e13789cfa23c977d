use Rattle.moment_laws.proofs.granting.granted_pages_were_free.Goals as goal
use Rattle.moment_laws.proofs.GrantLemmas.{granted-took}

pub returns : goal.returns
returns c = granted-took
