-- What it is to have run the lines of a script, by what one command makes of the state of its
-- server.
use Rattle.std.specs.Prelude.{◌≡◌, ℕ, List, [], ◌∷◌, ◌++◌, Option, Some, None, reverse, ◌⊎◌}
use Rattle.edge_io.specs.Moved.{Appends, AppendsPart}
use Rattle.eos_ops.specs.declared.command.Command.{Command}
use Rattle.eos_ops.specs.declared.reply.Reply.{Reply}
use Rattle.history.specs.Event.{Event}
use Rattle.script_model.specs.Grammar.{IsNoLine}
use Rattle.script_model.specs.Replies.{reply_line, no_line_reply}
use Rattle.script_model.specs.Transcript.{Answers, IsTold}

-- the line that answers a text: a session's reply, or that of a text which is no line
abbrev pub answer_line : Option (ℕ × Reply) → List ℕ
answer_line None = no_line_reply
answer_line (Some told) = reply_line told.0 told.1

-- A text was answered: as no line, which leaves the state as it is, or as a line of the language,
-- by a step.
abbrev pub IsLineRun : {S : Type 0} → (S → ℕ → Command → Reply → S → Type 0) → List ℕ → S → S →
    List ℕ → Type 0
IsLineRun step text w w' answer =
    (IsNoLine text × (answer ≡ no_line_reply) × (w' ≡ w))
    ⊎ ((e : Event) × (IsTold text answer e × step w e.session e.command e.reply w'))

-- the same, and the output grew by the answer
abbrev pub RunsLine : {S : Type 0} → (S → ℕ → Command → Reply → S → Type 0) → List ℕ → S → S →
    Option (List ℕ) → Option (List ℕ) → Type 0
RunsLine step text w w' before now =
    (answer : List ℕ) × (IsLineRun step text w w' answer × Appends answer before now)

-- the same, and the output grew by a front of the answer that isn't the whole
abbrev pub CutsLine : {S : Type 0} → (S → ℕ → Command → Reply → S → Type 0) → List ℕ → S → S →
    Option (List ℕ) → Option (List ℕ) → Type 0
CutsLine step text w w' before now =
    (answer : List ℕ) × (IsLineRun step text w w' answer × AppendsPart answer before now)

-- the events, the newest first, are steps that lead from one state to another
abbrev pub AreSteps : {S : Type 0} → (S → ℕ → Command → Reply → S → Type 0) → S → List Event → S →
    Type 0
AreSteps step w [] w' = w' ≡ w
AreSteps {S} step w (e ∷ past) w' = (v : S)
    × (AreSteps step w past v × step v e.session e.command e.reply w')

-- Lines were run from a state on: this output answers them, their events are steps, and the state
-- is now the one to which these lead.
pub record HasRunLines {S : Type 0} (step : S → ℕ → Command → Reply → S → Type 0) (w : S)
    (lines : List (List ℕ)) (output : List ℕ) (w' : S) : Type 0 where
  pub past : List Event
  pub answers : Answers lines output (reverse past)
  pub steps : AreSteps step w past w'

-- Of all lines some were run, from a state on, and the rest wasn't. The output grew by the answers
-- to those that were.
pub record Served {S : Type 0} (step : S → ℕ → Command → Reply → S → Type 0) (w : S)
    (all rest : List (List ℕ)) (before now : Option (List ℕ)) (w' : S) : Type 0 where
  pub lines : List (List ℕ)
  pub output : List ℕ
  pub parts : all ≡ lines ++ rest
  pub appended : Appends output before now
  pub ran : HasRunLines step w lines output w'

-- Some lines were run and answered, and then the next one: of its answer a front was written,
-- which isn't the whole.
pub record Broken {S : Type 0} (step : S → ℕ → Command → Reply → S → Type 0) (w : S)
    (all : List (List ℕ)) (before now : Option (List ℕ)) (w' : S) : Type 0 where
  pub text : List ℕ
  pub rest : List (List ℕ)
  pub between : Option (List ℕ)
  pub state : S
  pub served : Served step w all (text ∷ rest) before between state
  pub cut : CutsLine step text state w' between now

-- Some lines were run and answered, and at the next one the server gave up.
pub record Stopped {S : Type 0} (step : S → ℕ → Command → Reply → S → Type 0) (w : S)
    (all : List (List ℕ)) (before now : Option (List ℕ)) : Type 0 where
  pub text : List ℕ
  pub rest : List (List ℕ)
  pub state : S
  pub served : Served step w all (text ∷ rest) before now state
