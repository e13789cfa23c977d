use Rattle.window_laws.proofs.window.a_window_tells_the_requests.Goals as goal
use Rattle.window_laws.proofs.WindowLemmas.{wanted-on_window}

pub returns : goal.returns
returns c = wanted-on_window
