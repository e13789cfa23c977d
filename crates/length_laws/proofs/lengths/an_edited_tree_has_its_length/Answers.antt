use Rattle.length_laws.proofs.LengthLemmas.{trees-keep_length}
use Rattle.length_laws.proofs.lengths.an_edited_tree_has_its_length.Goals as goal

pub returns : goal.returns
returns c = trees-keep_length
