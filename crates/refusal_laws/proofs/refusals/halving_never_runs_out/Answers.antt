use Rattle.refusal_laws.proofs.RefusalLemmas.{halved-more}
use Rattle.refusal_laws.proofs.refusals.halving_never_runs_out.Goals as goal

pub returns : goal.returns
returns c = halved-more
