use Rattle.content_laws.proofs.spelling.a_grown_tail_holds_the_bytes.Goals as goal
use Rattle.content_laws.proofs.SpellingLemmas.{extended-content}

pub returns : goal.returns
returns c = extended-content
