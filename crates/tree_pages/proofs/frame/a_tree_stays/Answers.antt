use Rattle.tree_pages.proofs.FrameLemmas.{tree-stays, levels-stay, tree_nodes-stay, tree_entries-stay}
use Rattle.tree_pages.proofs.TreeLemmas.{tree_of-stays}
use Rattle.tree_pages.proofs.frame.a_tree_stays.Goals as goal

pub returns : goal.returns
returns c = record {
  shape = tree-stays;
  tree = tree_of-stays;
  levels = λ at now root same. levels-stay at now root.height root.page same;
  nodes = tree_nodes-stay;
  entries = tree_entries-stay;
}
