use Rattle.tree_pages.proofs.TreeLemmas.{version-stays, plain-stays, version_tree-stays}
use Rattle.tree_pages.proofs.frame.a_version_stays.Goals as goal

pub returns : goal.returns
returns c = record { version = version-stays; bytes = plain-stays; tree = version_tree-stays }
