use Rattle.history.proofs.Ends.{Serial-unique}
use Rattle.history.proofs.laws.ends_determine_the_database.Goals as goal

pub returns : goal.returns
returns c = λ db left right ends. Serial-unique ends db left right
