use Rattle.object_body.proofs.laws.an_edit_by_its_length.Goals as goal
use Rattle.object_body.proofs.LengthLemmas.{outcome-by_length, length-edited}

pub returns-clause-outcome : goal.returns-clause-outcome
returns-clause-outcome c = outcome-by_length

pub returns-clause-length : goal.returns-clause-length
returns-clause-length c = length-edited
