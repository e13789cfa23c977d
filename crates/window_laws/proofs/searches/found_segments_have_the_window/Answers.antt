use Rattle.window_laws.proofs.searches.found_segments_have_the_window.Goals as goal
use Rattle.window_laws.proofs.SearchLemmas.{segments-found}

pub returns : goal.returns
returns c = segments-found
