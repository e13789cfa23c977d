use Rattle.tree_pages.proofs.TreeLemmas.{entry-nodes, entry-segments}
use Rattle.tree_pages.proofs.levels.nodes_are_counted.Goals as goal

pub returns : goal.returns
returns c = record { nodes = entry-nodes; segments = entry-segments }
