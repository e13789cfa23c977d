-- The text is cut at its first space.
use Rattle.std.proofs.Common.{sym, ◌∙◌}
use Rattle.script_text.proofs.WordLemmas.{words-alone, words-at}
use Rattle.script_text.proofs.words.Words.next.Goals as goal

pub returns-in_default : goal.returns-in_default
returns-in_default c =
    rw (← c.self.view_is, c.in_ok-text.was) (words-alone c.in_ok-text.text.now (sym c.space_in.ensures ∙ c.in_default.is))

pub returns : goal.returns
returns c =
    rw (← c.self.view_is, c.in_ok-text.was, c.split_at.ensures.front, c.split_at-2.ensures.back, c.split_at.ensures.back)
    (words-at c.in_ok-text.text.now c.in-Some.at (sym c.space_in.ensures ∙ c.in-Some.is))
