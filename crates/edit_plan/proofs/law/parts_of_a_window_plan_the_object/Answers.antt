use Rattle.edit_plan.proofs.ObjectLemmas.{plan-of_object}
use Rattle.edit_plan.proofs.law.parts_of_a_window_plan_the_object.Goals as goal

pub returns : goal.returns
returns c = plan-of_object
