-- Memory is asked for only where the digits spell bytes.
use Rattle.std.proofs.Common.{sym, ◌∙◌}
use Rattle.script_text.proofs.PayloadLemmas.{given_of-passed}
use Rattle.script_text.proofs.read_payload.given_in.Goals as goal

pub returns-in-Err-OutOfMemory-clause-memory : goal.returns-in-Err-OutOfMemory-clause-memory
returns-in-Err-OutOfMemory-clause-memory c =
    given_of-passed c.args.digits.now c.if-digits-ne0.false (sym c.are_lower.ensures ∙ c.if-not-are_lower.false)
