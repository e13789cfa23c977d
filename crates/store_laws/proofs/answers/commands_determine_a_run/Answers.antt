use Rattle.store_laws.proofs.AnswerLemmas.{determined}
use Rattle.store_laws.proofs.answers.commands_determine_a_run.Goals as goal

pub returns : goal.returns
returns g c = determined g.K.Kind.laid g.K.Kind.good
