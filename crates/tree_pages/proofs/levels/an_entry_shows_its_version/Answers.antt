use Rattle.tree_pages.proofs.TreeLemmas.{entry-plain}
use Rattle.tree_pages.proofs.levels.an_entry_shows_its_version.Goals as goal

pub returns : goal.returns
returns c = entry-plain
