use Rattle.moment_laws.proofs.granting.pages_taken_were_free_in_the_moment.Goals as goal
use Rattle.moment_laws.proofs.GrantLemmas.{free_of-spaces, took-free}

pub returns-clause-spaces : goal.returns-clause-spaces
returns-clause-spaces c = free_of-spaces

pub returns-clause-free : goal.returns-clause-free
returns-clause-free c = took-free
