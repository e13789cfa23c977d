use Rattle.local_laws.proofs.LeftLemmas.{spliced-difference, runs-difference}
use Rattle.local_laws.proofs.left.made_and_left_are_the_difference.Goals as goal

pub returns-clause-levels : goal.returns-clause-levels
returns-clause-levels c = spliced-difference

pub returns-clause-runs : goal.returns-clause-runs
returns-clause-runs c = runs-difference
