use Rattle.content_laws.proofs.spelling.laid_parts_are_spliced.Goals as goal
use Rattle.content_laws.proofs.SpellingLemmas.{laid-all}

pub returns : goal.returns
returns c = laid-all
