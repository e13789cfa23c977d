use Rattle.tree_pages.proofs.TreeLemmas.{tree-levels, tree-counts}
use Rattle.tree_pages.proofs.levels.a_tree_has_levels.Goals as goal

pub returns : goal.returns
returns c = record { levels = tree-levels; bytes = tree-counts }
