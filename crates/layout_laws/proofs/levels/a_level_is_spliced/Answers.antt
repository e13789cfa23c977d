use Rattle.layout_laws.proofs.levels.a_level_is_spliced.Goals as goal
use Rattle.layout_laws.proofs.LevelLemmas.{level-spliced}

pub returns : goal.returns
returns c = level-spliced
