-- The number of the first word.
use Rattle.std.proofs.Common.{ap, sym, ◌∙◌}
use Rattle.script_text.specs.Words.{first_number}
use Rattle.script_text.proofs.words.Words.next_number.Goals as goal

pub returns-clause-value : goal.returns-clause-value
returns-clause-value c = c.read_number.ensures ∙ sym (ap first_number c.in_ok-next.ensures)
