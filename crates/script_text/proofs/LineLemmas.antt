-- A text is a line just where its words are a session and a command.
use Rattle.std.proofs.Common.{◌≡◌, ℕ, ◌<◌, ◌≤◌, List, ◌∷◌, drop, Option, Some, None, IsSomeAnd, decimal, refl, sym, ◌∙◌, ap, arith}
use Rattle.std.specs.List.{join_with_byte}
use Rattle.std.proofs.lemmas.List.Splits.{join_with_byte-slice_split}
use Rattle.eos_ops.specs.declared.command.Command.{Command}
use Rattle.script_model.specs.Grammar.{IsLine, IsNoLine, words_of}
use Rattle.script_model.specs.declared.line.Line.{Line}
use Rattle.script_text.specs.Failing.{BringsBytes, Explains}
use Rattle.script_text.specs.declared.line.LineFail.TheVariants.{Memory}
use Rattle.script_text.specs.Reading.{command_of}
use Rattle.script_text.specs.Words.{first_number, words}
use Rattle.base_laws.proofs.OptionLaws.{some-inner}
use Rattle.script_text.proofs.CommandLemmas.{clean-words_of, command_of-some, command_of-words_of, first_number-some}
use Rattle.script_text.proofs.NumberLemmas.{number_of-decimal}
use Rattle.script_text.proofs.PayloadLemmas.{clean-decimal}
use Rattle.script_text.proofs.WordLemmas.{words-joined}

-- what was read is a line
pub line-read : (text : List ℕ) (s : ℕ) (c : Command) → first_number (words text) ≡ Some s → 1 ≤ s → s ≤ 64
    → command_of (drop 1 (words text)) ≡ Some c → IsLine text (record { session = s; command = c })
line-read text s c first low high h =
    let number = first_number-some (words text) s first in
    let found = command_of-some (drop 1 (words text)) c h in
    record {
      session_low = low;
      session_high = high;
      command = found.0;
      spelling = sym (join_with_byte-slice_split 32 text)
          ∙ ap (join_with_byte 32) (number.1 ∙ ap (λ (rest : List (List ℕ)). decimal s ∷ rest) found.1);
    }

-- where the words after the session are a command, it is a line
found-and : (P : Command → Type 0) (o : Option Command) → IsSomeAnd o P → (c : Command) × (o ≡ Some c) × P c
found-and P None h = absurd h
found-and P (Some c) h = (c, refl, h)

pub line-found : (text : List ℕ) (s : ℕ) → first_number (words text) ≡ Some s → 1 ≤ s → s ≤ 64
    → IsSomeAnd (command_of (drop 1 (words text))) BringsBytes → Explains text (Memory s)
line-found text s first low high h =
    let found = found-and BringsBytes (command_of (drop 1 (words text))) h in
    (found.0, line-read text s found.0 first low high found.1, found.2)

-- the words of a line
line-words : (text : List ℕ) (l : Line) → IsLine text l → words text ≡ decimal l.session ∷ words_of l.command
line-words text l h =
    ap words h.spelling
    ∙ words-joined (decimal l.session) (words_of l.command)
    (clean-decimal l.session (omega (arith, h.session_high)), clean-words_of l.command h.command)

line-session : (text : List ℕ) (l : Line) → IsLine text l → first_number (words text) ≡ Some l.session
line-session text l h = ap first_number (line-words text l h) ∙ number_of-decimal l.session (omega (arith, h.session_high))

some-not-none : (s : ℕ) (o : Option ℕ) → o ≡ None → o ≡ Some s → ⊥
some-not-none s o p q = cc

-- the three ways in which a text is no line
pub no-number : (text : List ℕ) → first_number (words text) ≡ None → IsNoLine text
no-number text none l h = some-not-none l.session (first_number (words text)) none (line-session text l h)

session-is : (text : List ℕ) (s : ℕ) (l : Line) → first_number (words text) ≡ Some s → IsLine text l → s ≡ l.session
session-is text s l first h = some-inner s l.session (sym first ∙ line-session text l h)

pub no-session-low : (text : List ℕ) (s : ℕ) → first_number (words text) ≡ Some s → s < 1 → IsNoLine text
no-session-low text s first low l h = omega (arith, session-is text s l first h, h.session_low)

pub no-session-high : (text : List ℕ) (s : ℕ) → first_number (words text) ≡ Some s → 64 < s → IsNoLine text
no-session-high text s first high l h = omega (arith, session-is text s l first h, h.session_high)

command-not-none : (c : Command) (o : Option Command) → o ≡ None → o ≡ Some c → ⊥
command-not-none c o p q = cc

pub no-command : (text : List ℕ) → command_of (drop 1 (words text)) ≡ None → IsNoLine text
no-command text none l h =
    command-not-none l.command (command_of (drop 1 (words text))) none
    (ap (λ (ws : List (List ℕ)). command_of (drop 1 ws)) (line-words text l h) ∙ command_of-words_of l.command h.command)

-- the command after the session of a line
line-command : (text : List ℕ) (l : Line) → IsLine text l → command_of (drop 1 (words text)) ≡ Some l.command
line-command text l h =
    ap (λ (ws : List (List ℕ)). command_of (drop 1 ws)) (line-words text l h) ∙ command_of-words_of l.command h.command

-- a text is one line at most
pub line-unique : (text : List ℕ) (l m : Line) → IsLine text l → IsLine text m → l ≡ m
line-unique text l m h k =
    let session : l.session ≡ m.session = session-is text l.session m (line-session text l h) k in
    let command : l.command ≡ m.command = some-inner l.command m.command (sym (line-command text l h) ∙ line-command text m k) in
    let first : l ≡ record { session = m.session; command = l.command } =
    ap (λ (s : ℕ). record { session = s; command = l.command }) session in
    let second : record { session = m.session; command = l.command } ≡ m =
    ap (λ (c : Command). record { session = m.session; command = c }) command in
    first ∙ second
