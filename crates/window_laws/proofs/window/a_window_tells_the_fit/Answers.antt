use Rattle.window_laws.proofs.window.a_window_tells_the_fit.Goals as goal
use Rattle.window_laws.proofs.WindowLemmas.{fit-on_window}

pub returns : goal.returns
returns c = fit-on_window
