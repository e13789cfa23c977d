use Rattle.tree_splice.proofs.CountedLemmas.{path-counted}
use Rattle.tree_splice.proofs.counted.a_way_is_counted.Goals as goal

pub returns : goal.returns
returns c = path-counted
