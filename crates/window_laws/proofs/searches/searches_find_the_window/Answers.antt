use Rattle.window_laws.proofs.searches.searches_find_the_window.Goals as goal
use Rattle.window_laws.proofs.SearchLemmas.{searches-find}

pub returns : goal.returns
returns c = searches-find
