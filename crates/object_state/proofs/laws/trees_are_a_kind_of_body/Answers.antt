use Rattle.object_state.specs.Laws.{keeps-trees, refuses-trees}
use Rattle.object_state.proofs.laws.trees_are_a_kind_of_body.Goals as goal

pub returns-clause-soundness : goal.returns-clause-soundness
returns-clause-soundness c = keeps-trees

pub returns-clause-refused : goal.returns-clause-refused
returns-clause-refused c = refuses-trees
