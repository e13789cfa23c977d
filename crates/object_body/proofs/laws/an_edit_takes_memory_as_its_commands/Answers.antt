use Rattle.object_body.proofs.laws.an_edit_takes_memory_as_its_commands.Goals as goal
use Rattle.object_body.proofs.MemoryLemmas.{command-may_take, edit-may_take}

pub returns-clause-may : goal.returns-clause-may
returns-clause-may c = command-may_take

pub returns-clause-must : goal.returns-clause-must
returns-clause-must c = edit-may_take
