use Rattle.layout_laws.proofs.NamingLemmas.{spliced-named}
use Rattle.layout_laws.proofs.levels.new_levels_name_each_other.Goals as goal

pub returns : goal.returns
returns c = spliced-named
