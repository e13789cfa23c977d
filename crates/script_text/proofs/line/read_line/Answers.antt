-- What was read is the line, and what wasn't is none.
use Rattle.std.proofs.Common.{List, ℕ, arith, sym, ◌∙◌, ap, drop}
use Rattle.script_text.specs.Reading.{command_of}
use Rattle.script_text.specs.Words.{first_number}
use Rattle.script_text.proofs.LineLemmas.{line-found, line-read, no-command, no-number, no-session-high, no-session-low}
use Rattle.script_text.proofs.line.read_line.Goals as goal

pub returns-in_default-clause-fail : goal.returns-in_default-clause-fail
returns-in_default-clause-fail c =
    no-number c.args.bytes.now (sym (ap first_number c.new-words.ensures) ∙ sym c.next_number.ensures.value ∙ c.in_default.is)

pub returns-then-session-lt1-clause-fail : goal.returns-then-session-lt1-clause-fail
returns-then-session-lt1-clause-fail c =
    no-session-low c.args.bytes.now c.in-Some.session
    (sym (ap first_number c.new-words.ensures) ∙ sym c.next_number.ensures.value ∙ c.in-Some.is) c.if-session-lt1.true

pub returns-then-session-from-clause-fail : goal.returns-then-session-from-clause-fail
returns-then-session-from-clause-fail c =
    no-session-high c.args.bytes.now c.in-Some.session
    (sym (ap first_number c.new-words.ensures) ∙ sym c.next_number.ensures.value ∙ c.in-Some.is) (omega arith)

pub returns-in-Ok-Some-clause-line : goal.returns-in-Ok-Some-clause-line
returns-in-Ok-Some-clause-line c =
    line-read c.args.bytes.now c.in-Some.session c.in-Ok-Some.command
    (sym (ap first_number c.new-words.ensures) ∙ sym c.next_number.ensures.value ∙ c.in-Some.is)
    c.if-session-lt1.false (omega arith)
    (sym (ap command_of (c.in-Some.ensures.rest ∙ ap (λ (ws : List (List ℕ)). drop 1 ws) c.new-words.ensures))
    ∙ sym c.in-Ok-Some.ensures.ok ∙ c.in-Ok-Some.field-0-is)

pub returns-in-Ok-None-clause-fail : goal.returns-in-Ok-None-clause-fail
returns-in-Ok-None-clause-fail c =
    no-command c.args.bytes.now
    (sym (ap command_of (c.in-Some.ensures.rest ∙ ap (λ (ws : List (List ℕ)). drop 1 ws) c.new-words.ensures))
    ∙ sym c.in-Ok-None.ensures.ok ∙ c.in-Ok-None.field-0-is)

pub returns-in-Err-clause-fail : goal.returns-in-Err-clause-fail
returns-in-Err-clause-fail c =
    line-found c.args.bytes.now c.in-Some.session
    (sym (ap first_number c.new-words.ensures) ∙ sym c.next_number.ensures.value ∙ c.in-Some.is)
    c.if-session-lt1.false (omega arith)
    (rw (c.in-Some.ensures.rest ∙ ap (λ (ws : List (List ℕ)). drop 1 ws) c.new-words.ensures) at c.in-Err.ensures.memory)
