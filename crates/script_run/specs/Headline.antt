-- What a whole run means, from the bytes that come in to the bytes that go out. Each definition
-- takes what it is to have run lines: which lines with which output.
use Rattle.std.specs.Prelude.{◌≡◌, ℕ, List, [], ◌∷◌, ◌++◌, Option, length, reverse}
use Rattle.edge_io.specs.Moved.{GaveAll, Appends, AppendsPart}
use Rattle.eos_ops.specs.declared.limits.TheConstants.{SESSIONS}
use Rattle.eos_ops.specs.declared.plain.Plain.{Plain}
use Rattle.history.specs.Event.{Event}
use Rattle.history.specs.Refusals.{AllCaused}
use Rattle.history.specs.Serial.{Serial}
use Rattle.history.specs.Transactions.{ends}
use Rattle.script_model.specs.Transcript.{Answers, script_lines}
use Rattle.script_run.specs.Long.{IsLong}

-- A run that did all: it read the input to its end, ran all of its lines, and wrote the replies
-- and nothing else.
pub record Done (have_run : List (List ℕ) → List ℕ → Type 0)
    (left left' written written' : Option (List ℕ)) : Type 0 where
  pub input : List ℕ
  pub output : List ℕ
  pub read : GaveAll input left left'
  pub short : IsLong input → ⊥
  pub wrote : Appends output written written'
  pub ran : have_run (script_lines input) output

-- A run whose output was cut short: it read the input to its end and ran some lines, whose answers
-- it wrote, and then the next line. Of the answer to that one it wrote a front, which isn't the
-- whole, and nothing after it.
pub record CutShort (have_run : List (List ℕ) → List ℕ → Type 0)
    (left left' written written' : Option (List ℕ)) : Type 0 where
  pub input : List ℕ
  pub lines : List (List ℕ)
  pub text : List ℕ
  pub rest : List (List ℕ)
  pub output : List ℕ
  pub answer : List ℕ
  pub between : Option (List ℕ)
  pub read : GaveAll input left left'
  pub short : IsLong input → ⊥
  pub parts : script_lines input ≡ lines ++ text ∷ rest
  pub ran : have_run lines output
  pub wrote : Appends output written between
  pub ran_next : have_run (lines ++ text ∷ []) (output ++ answer)
  pub front : AppendsPart answer between written'

-- A run that was given up: it read the input to its end and ran some lines, whose answers it wrote
-- and nothing else, and another line is left.
pub record GivenUp (have_run : List (List ℕ) → List ℕ → Type 0)
    (left left' written written' : Option (List ℕ)) : Type 0 where
  pub input : List ℕ
  pub lines : List (List ℕ)
  pub text : List ℕ
  pub rest : List (List ℕ)
  pub output : List ℕ
  pub read : GaveAll input left left'
  pub short : IsLong input → ⊥
  pub parts : script_lines input ≡ lines ++ text ∷ rest
  pub ran : have_run lines output
  pub wrote : Appends output written written'

-- The output answers the lines by these events, the newest first, over objects that were these at
-- first. The ends of the transactions, those that are open at the end counted as aborted, are one
-- serial history over byte strings, and each refusal has its cause.
pub record IsSerialRun (db : List Plain) (lines : List (List ℕ)) (output : List ℕ)
    (past : List Event) : Type 0 where
  pub answers : Answers lines output (reverse past)
  pub causes : AllCaused SESSIONS (length db) past
  pub left : List Plain
  pub serial : Serial db (ends SESSIONS past) left
