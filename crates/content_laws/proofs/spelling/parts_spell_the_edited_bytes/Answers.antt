use Rattle.content_laws.proofs.spelling.parts_spell_the_edited_bytes.Goals as goal
use Rattle.content_laws.proofs.SpellingLemmas.{planned-spells}

pub returns : goal.returns
returns c = planned-spells
