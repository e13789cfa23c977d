use Rattle.written_laws.proofs.runs.granted_runs_suit_the_plan.Goals as goal
use Rattle.written_laws.proofs.AskedLemmas.{asked-suits}

pub returns : goal.returns
returns c = asked-suits
