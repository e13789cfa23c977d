-- The words of a text are read in one way.
use Rattle.script_text.proofs.LineLemmas.{line-unique}
use Rattle.script_text.proofs.laws.a_text_is_one_line.Goals as goal

pub returns : goal.returns
returns c = line-unique
