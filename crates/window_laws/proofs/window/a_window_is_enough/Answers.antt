use Rattle.window_laws.proofs.window.a_window_is_enough.Goals as goal
use Rattle.window_laws.proofs.WindowLemmas.{planned-on_window}

pub returns : goal.returns
returns c = planned-on_window
