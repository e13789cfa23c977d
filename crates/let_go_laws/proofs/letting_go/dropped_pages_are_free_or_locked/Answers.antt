use Rattle.let_go_laws.proofs.LetGoLemmas.{dropped-free, dropped-locked}
use Rattle.let_go_laws.proofs.letting_go.dropped_pages_are_free_or_locked.Goals as goal

pub returns-clause-free : goal.returns-clause-free
returns-clause-free g c = dropped-free g.K.Kind.good

pub returns-clause-locked : goal.returns-clause-locked
returns-clause-locked g c = dropped-locked g.K.Kind.good
