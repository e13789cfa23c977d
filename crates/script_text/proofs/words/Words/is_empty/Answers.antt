-- A text has a word, and no text has none.
use Rattle.script_text.proofs.WordLemmas.{words-over}
use Rattle.script_text.proofs.words.Words.is_empty.Goals as goal

pub returns : goal.returns
returns c = rw (← c.self.view_is) (words-over c.self.inside.rest c.is_none.result c.is_none.ensures)
