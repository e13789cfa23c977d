use Rattle.window_laws.proofs.window.a_border_is_a_number.Goals as goal
use Rattle.window_laws.proofs.CountLemmas.{border-number}

pub returns : goal.returns
returns c = border-number
