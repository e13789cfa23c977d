use Rattle.layout_laws.proofs.levels.entries_are_spliced.Goals as goal
use Rattle.layout_laws.proofs.LevelLemmas.{spliced-entries}

pub returns : goal.returns
returns c = spliced-entries
