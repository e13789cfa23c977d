-- When an output answers an input: line by line, and with nothing else.
use Rattle.std.specs.Prelude.{◌≡◌, ℕ, ◌<◌, ◌⊎◌, Bool, false, nat_lt, ◌||◌, List, [], ◌∷◌, ◌++◌}
use Rattle.std.specs.Prelude.{length, ◌==◌, if◌then◌else◌}
use Rattle.history.specs.Event.{Event}
use Rattle.script_model.specs.declared.limits.TheConstants.{MAX_LINE}
use Rattle.script_model.specs.Grammar.{IsLine, IsNoLine}
use Rattle.script_model.specs.Replies.{reply_line, no_line_reply}

-- a byte put before the first line
abbrev pub onto_line : ℕ → List (List ℕ) → List (List ℕ)
onto_line b [] = (b ∷ []) ∷ []
onto_line b (line ∷ lines) = (b ∷ line) ∷ lines

-- The lines of a script: a line feed ends a line, and the bytes after the last one, where there
-- are any, are a last line.
abbrev pub script_lines : List ℕ → List (List ℕ)
script_lines [] = []
script_lines (b ∷ bytes) = if b == 10 then []
    ∷ script_lines bytes else onto_line b (script_lines bytes)

-- The text is a line of the language, the event is its command with a reply, and the answer is
-- the reply's line.
pub record IsTold (text answer : List ℕ) (e : Event) : Type 0 where
  pub line : IsLine text (record { session = e.session; command = e.command })
  pub reply : answer ≡ reply_line e.session e.reply

-- The output has just one answer for each line, in order. A line of the language gives an event,
-- and every other text is answered by `?` and gives none.
abbrev pub Answers : List (List ℕ) → List ℕ → List Event → Type 0
Answers [] output events = (output ≡ []) × (events ≡ [])
Answers (text ∷ lines) output events =
    ((rest : List ℕ) × (IsNoLine text × (output ≡ no_line_reply ++ rest)
    × Answers lines rest events))
    ⊎ ((answer : List ℕ) × (rest : List ℕ) × (e : Event) × (more : List Event)
    × ((output ≡ answer ++ rest) × (events ≡ e ∷ more) × IsTold text answer e
    × Answers lines rest more))

-- the output answers the input, and these are the events, in order
abbrev pub Transcript : List ℕ → List ℕ → List Event → Type 0
Transcript input output events = Answers (script_lines input) output events

-- whether some line has more bytes than a line may have
abbrev pub has_long_line : List (List ℕ) → Bool
has_long_line [] = false
has_long_line (text ∷ lines) = nat_lt MAX_LINE (length text) || has_long_line lines
