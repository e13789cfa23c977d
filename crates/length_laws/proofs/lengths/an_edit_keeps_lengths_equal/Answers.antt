use Rattle.length_laws.proofs.LengthLemmas.{lengths-equal}
use Rattle.length_laws.proofs.lengths.an_edit_keeps_lengths_equal.Goals as goal

pub returns : goal.returns
returns g c = lengths-equal g.K.Kind.laid g.K.Kind.good
