use Rattle.edit_plan.proofs.TightLemmas.{window-tight}
use Rattle.edit_plan.proofs.law.a_window_is_tight.Goals as goal

pub returns : goal.returns
returns c = window-tight
