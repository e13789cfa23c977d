use Rattle.change_laws.proofs.shape.new_levels_are_those_of_a_tree.Goals as goal
use Rattle.change_laws.proofs.ShapeLemmas.{spliced-levels}

pub returns : goal.returns
returns c = spliced-levels
