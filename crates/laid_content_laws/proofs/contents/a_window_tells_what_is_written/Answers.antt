use Rattle.laid_content_laws.proofs.contents.a_window_tells_what_is_written.Goals as goal
use Rattle.laid_content_laws.proofs.WindowContentLemmas.{window-written}

pub returns : goal.returns
returns c = window-written
