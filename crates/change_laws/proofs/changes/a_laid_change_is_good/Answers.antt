use Rattle.change_laws.proofs.changes.a_laid_change_is_good.Goals as goal
use Rattle.change_laws.proofs.ChangeLemmas.{laid-on}

pub returns : goal.returns
returns c = laid-on
