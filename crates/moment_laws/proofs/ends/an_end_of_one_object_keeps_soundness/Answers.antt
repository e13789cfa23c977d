use Rattle.moment_laws.proofs.ends.an_end_of_one_object_keeps_soundness.Goals as goal
use Rattle.moment_laws.proofs.EndLemmas.{sound-settled_one, sound-undone_one}

pub returns-clause-settled : goal.returns-clause-settled
returns-clause-settled g c = sound-settled_one g.K.Kind.good

pub returns-clause-undone : goal.returns-clause-undone
returns-clause-undone g c = sound-undone_one g.K.Kind.good
