use Rattle.local_laws.proofs.CutLemmas.{level-local}
use Rattle.local_laws.proofs.level.a_level_is_local.Goals as goal

pub returns : goal.returns
returns c = level-local
