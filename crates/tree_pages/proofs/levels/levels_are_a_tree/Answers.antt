use Rattle.tree_pages.proofs.TreeLemmas.{stored-tree, stored-levels, stored-tree_of}
use Rattle.tree_pages.proofs.levels.levels_are_a_tree.Goals as goal

pub returns : goal.returns
returns c = record { shape = stored-tree; levels = stored-levels; tree = stored-tree_of }
