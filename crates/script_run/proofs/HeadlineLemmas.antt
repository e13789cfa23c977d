-- From lines that were run, step by step, to what a run means.
use Rattle.std.proofs.Common.{◌≡◌, ℕ, ◌+◌, ◌<◌, ◌≤◌, List, [], ◌∷◌, ◌++◌, Option, length, reverse, sym, ◌∙◌, subst}
use Rattle.std.proofs.Common.{ap, append_assoc, append-nil, length-append, inl, arith}
use Rattle.std.proofs.lemmas.List.{length-reverse}
use Rattle.edge_io.specs.Moved.{GaveAll}
use Rattle.eos_ops.specs.declared.command.Command.{Command}
use Rattle.eos_ops.specs.declared.limits.TheConstants.{SESSIONS, LAST_STAMP}
use Rattle.eos_ops.specs.declared.plain.Plain.{Plain}
use Rattle.eos_ops.specs.declared.reply.Reply.{Reply}
use Rattle.history.specs.Event.{Event}
use Rattle.history.specs.Serial.{Serial}
use Rattle.history.specs.Transactions.{ends}
use Rattle.machine.specs.Machine.{Machine, database, fresh}
use Rattle.machine.specs.Runs.{IsRun, state_after}
use Rattle.machine.proofs.Caused.{AllCaused-fresh}
use Rattle.machine.proofs.Owing.{IsOwedRun-from}
use Rattle.machine.proofs.Replying.{MayRun-from}
use Rattle.machine.proofs.Sizes.{AtRest-fresh, database-fresh}
use Rattle.machine.proofs.Soundness.{Sound-run, Sound-serial}
use Rattle.script_model.specs.declared.limits.TheConstants.{MAX_SCRIPT}
use Rattle.script_model.specs.Transcript.{script_lines, Answers}
use Rattle.script_run.specs.Headline.{CutShort, Done, GivenUp, IsSerialRun}
use Rattle.script_run.specs.Long.{IsLong}
use Rattle.script_run.specs.Served.{Broken, HasRunLines, Served, Stopped}
use Rattle.script_run.proofs.CountLemmas.{length-script_lines, length-events}
use Rattle.script_run.proofs.ServedLemmas.{ran-more}

-- a script that isn't too long has few lines
few_lines : (input : List ℕ) (lines rest : List (List ℕ)) → script_lines input ≡ lines ++ rest →
    (IsLong input → ⊥) → length lines ≤ MAX_SCRIPT
few_lines input lines rest parts short =
    let all : length (script_lines input) ≡ length lines + length rest = ap length parts ∙ length-append lines rest in
    let most = length-script_lines input in
    let within : (MAX_SCRIPT < length input) → ⊥ = λ long. short (inl long) in
    omega (arith, all, most, within)

-- How lines that were run by steps from a state on are lines that have run: those of a script that isn't too long, from
-- this state on.
abbrev pub Leads : {S : Type 0} → (S → ℕ → Command → Reply → S → Type 0) → S → (List (List ℕ) → List ℕ → Type 0) → Type 0
Leads {S} step w have_run = (lines : List (List ℕ)) (output : List ℕ) (w' : S) → length lines ≤ MAX_SCRIPT →
    HasRunLines step w lines output w' → have_run lines output

-- all lines
pub done : {S : Type 0} (step : S → ℕ → Command → Reply → S → Type 0) (w w' : S)
    (have_run : List (List ℕ) → List ℕ → Type 0) → Leads step w have_run →
    (input : List ℕ) (left left' before now : Option (List ℕ)) → GaveAll input left left' → (IsLong input → ⊥) →
    Served step w (script_lines input) [] before now w' → Done have_run left left' before now
done step w w' have_run leads input left left' before now read short so =
    let P : List (List ℕ) → Type 0 = λ lines. have_run lines so.output in
    record {
      input = input;
      output = so.output;
      read = read;
      short = short;
      wrote = so.appended;
      ran = subst P (sym (so.parts ∙ append-nil so.lines))
          (leads so.lines so.output w' (few_lines input so.lines [] so.parts short) so.ran);
    }

-- up to the line whose answer was cut
pub cut_short : {S : Type 0} (step : S → ℕ → Command → Reply → S → Type 0) (w w' : S)
    (have_run : List (List ℕ) → List ℕ → Type 0) → Leads step w have_run →
    (input : List ℕ) (left left' before now : Option (List ℕ)) → GaveAll input left left' → (IsLong input → ⊥) →
    Broken step w (script_lines input) before now w' → CutShort have_run left left' before now
cut_short step w w' have_run leads input left left' before now read short broken =
    let so = broken.served in
    let next = so.lines ++ broken.text ∷ [] in
    record {
      input = input;
      lines = so.lines;
      text = broken.text;
      rest = broken.rest;
      output = so.output;
      answer = broken.cut.0;
      between = broken.between;
      read = read;
      short = short;
      parts = so.parts;
      ran = leads so.lines so.output broken.state (few_lines input so.lines (broken.text ∷ broken.rest) so.parts short) so.ran;
      wrote = so.appended;
      ran_next = leads next (so.output ++ broken.cut.0) w' (few_lines input next broken.rest (so.parts
          ∙ sym (append_assoc so.lines (broken.text ∷ []) broken.rest)) short)
          (ran-more step w broken.state w' so.lines so.output broken.text broken.cut.0 so.ran broken.cut.1.0);
      front = broken.cut.1.1;
    }

-- up to the line at which the server gave up
pub given_up : {S : Type 0} (step : S → ℕ → Command → Reply → S → Type 0) (w : S)
    (have_run : List (List ℕ) → List ℕ → Type 0) → Leads step w have_run →
    (input : List ℕ) (left left' before now : Option (List ℕ)) → GaveAll input left left' → (IsLong input → ⊥) →
    Stopped step w (script_lines input) before now → GivenUp have_run left left' before now
given_up step w have_run leads input left left' before now read short stopped =
    let so = stopped.served in
    record {
      input = input;
      lines = so.lines;
      text = stopped.text;
      rest = stopped.rest;
      output = so.output;
      read = read;
      short = short;
      parts = so.parts;
      ran = leads so.lines so.output stopped.state (few_lines input so.lines (stopped.text ∷ stopped.rest) so.parts short) so.ran;
      wrote = so.appended;
    }

-- events of the machine over new objects that answer lines
pub serial_run : (db : List Plain) (lines : List (List ℕ)) (output : List ℕ) (past : List Event) →
    length lines ≤ MAX_SCRIPT → Answers lines output (reverse past) → IsRun (fresh SESSIONS db) past →
    IsSerialRun db lines output past
serial_run db lines output past short answers run =
    let same : length (reverse past) ≡ length past = length-reverse past in
    let events = length-events lines output (reverse past) answers in
    let few : length past ≤ LAST_STAMP = omega (arith, same, events, short) in
    let P : List Plain → Type 0 = λ first. Serial first (ends SESSIONS past) (database (state_after (fresh SESSIONS db) past)) in
    record {
      answers = answers;
      causes = AllCaused-fresh SESSIONS db past (IsOwedRun-from (fresh SESSIONS db) past run) few;
      left = database (state_after (fresh SESSIONS db) past);
      serial = subst P (database-fresh SESSIONS db)
          (Sound-serial (database (fresh SESSIONS db)) past (state_after (fresh SESSIONS db) past) SESSIONS
          (Sound-run (fresh SESSIONS db) past (AtRest-fresh SESSIONS db)
          (MayRun-from (fresh SESSIONS db) past run)));
    }
