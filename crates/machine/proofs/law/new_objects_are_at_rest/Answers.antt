use Rattle.machine.proofs.Sizes.{AtRest-fresh, database-fresh}
use Rattle.machine.proofs.law.new_objects_are_at_rest.Goals as goal

pub returns : goal.returns
returns c = record { rest = AtRest-fresh; same = database-fresh }
