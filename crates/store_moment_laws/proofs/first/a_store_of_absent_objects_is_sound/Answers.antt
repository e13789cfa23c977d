use Rattle.store_moment_laws.proofs.FirstLemmas.{fresh-absent, absent-sound, absent-tails, absent-free, absent-locked}
use Rattle.store_moment_laws.proofs.first.a_store_of_absent_objects_is_sound.Goals as goal

pub returns-clause-fresh : goal.returns-clause-fresh
returns-clause-fresh g c = fresh-absent

pub returns-clause-sound : goal.returns-clause-sound
returns-clause-sound g c = absent-sound g.K.Kind.good

pub returns-clause-tails : goal.returns-clause-tails
returns-clause-tails g c = absent-tails

pub returns-clause-free : goal.returns-clause-free
returns-clause-free g c = absent-free

pub returns-clause-locked : goal.returns-clause-locked
returns-clause-locked g c = absent-locked
