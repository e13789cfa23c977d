use Rattle.let_go_laws.proofs.LetGoLemmas.{change-gives, change-locks}
use Rattle.let_go_laws.proofs.letting_go.a_change_gives_and_locks.Goals as goal

pub returns-clause-free : goal.returns-clause-free
returns-clause-free c = change-gives

pub returns-clause-locked : goal.returns-clause-locked
returns-clause-locked c = change-locks
