use Rattle.window_laws.proofs.window.a_window_has_its_borders.Goals as goal
use Rattle.window_laws.proofs.StretchLemmas.{window-border}

pub returns : goal.returns
returns c = window-border
