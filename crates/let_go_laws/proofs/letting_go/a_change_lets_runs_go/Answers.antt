use Rattle.let_go_laws.proofs.LetGoLemmas.{runs-dropped}
use Rattle.let_go_laws.proofs.letting_go.a_change_lets_runs_go.Goals as goal

pub returns : goal.returns
returns c = runs-dropped
