use Rattle.content_laws.proofs.spelling.laid_parts_hold_the_bytes.Goals as goal
use Rattle.content_laws.proofs.SpellingLemmas.{laid-holds}

pub returns : goal.returns
returns c = laid-holds
