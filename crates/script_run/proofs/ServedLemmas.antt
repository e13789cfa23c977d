-- One line more that was run.
use Rattle.std.proofs.Common.{◌≡◌, ℕ, inl, inr, List, [], ◌∷◌, ◌++◌, Option, Some, None, MatchOption, reverse, refl}
use Rattle.std.proofs.Common.{ap, sym, ◌∙◌, subst, append_assoc, append-nil}
use Rattle.std.proofs.lemmas.List.{reverse-append}
use Rattle.edge_io.specs.Moved.{Appends}
use Rattle.edge_io.proofs.MovedLaws.{Appends-append, appends-none}
use Rattle.eos_ops.specs.declared.command.Command.{Command}
use Rattle.eos_ops.specs.declared.reply.Reply.{Reply}
use Rattle.history.specs.Event.{Event}
use Rattle.script_model.specs.Grammar.{IsLine, IsNoLine}
use Rattle.script_model.specs.Replies.{no_line_reply}
use Rattle.script_model.specs.Transcript.{Answers, IsTold}
use Rattle.script_run.specs.Served.{answer_line, Broken, CutsLine, HasRunLines, IsLineRun, RunsLine, Served, Stopped}

-- what was found of a line, as the line that was run
pub line-run : {S : Type 0} (step : S → ℕ → Command → Reply → S → Type 0) (text : List ℕ) (w w' : S)
    (told : Option (ℕ × Reply)) → MatchOption told (IsNoLine text × (w' ≡ w))
    (λ t. (c : Command) × (IsLine text (record { session = t.0; command = c }) × step w t.0 c t.1 w')) →
    IsLineRun step text w w' (answer_line told)
line-run step text w w' None (none, same) = inl (none, refl, same)
line-run step text w w' (Some t) (c, (line, stepped)) =
    inr (record { session = t.0; command = c; reply = t.1 }, (record { line = line; reply = refl }, stepped))

-- no line was run yet
pub served-none : {S : Type 0} (step : S → ℕ → Command → Reply → S → Type 0) (w : S) (all : List (List ℕ))
    (before : Option (List ℕ)) → Served step w all all before before w
served-none step w all before = record {
  lines = [];
  output = [];
  parts = refl;
  appended = appends-none before;
  ran = record { past = []; answers = (refl, refl); steps = refl };
}

-- a text that is no line, at the end of those that were answered
answers-bad : (lines : List (List ℕ)) (text output : List ℕ) (events : List Event) → Answers lines output events →
    IsNoLine text → Answers (lines ++ text ∷ []) (output ++ no_line_reply) events
answers-bad [] text output events (none, empty) bad = inl ([], (bad, rw none refl, (refl, empty)))
answers-bad (line ∷ lines) text output events (inl (rest, (here, cut, more))) bad =
    inl (rest ++ no_line_reply, (here, rw cut refl, answers-bad lines text rest events more bad))
answers-bad (line ∷ lines) text output events (inr (answer, rest, e, later, (cut, told, here, more))) bad =
    inr (
      answer,
      rest ++ no_line_reply,
      e,
      later,
      (
        ap (λ o. o ++ no_line_reply) cut ∙ append_assoc answer rest no_line_reply,
        told,
        here,
        answers-bad lines text rest later more bad,
      ),
    )

-- a line with its event
answers-told : (lines : List (List ℕ)) (text output answer : List ℕ) (events : List Event) (e : Event) →
    Answers lines output events → IsTold text answer e →
    Answers (lines ++ text ∷ []) (output ++ answer) (events ++ e ∷ [])
answers-told [] text output answer events e (none, empty) is =
    inr (answer, [], e, [], (rw none (sym (append-nil answer)), rw empty refl, is, (refl, refl)))
answers-told (line ∷ lines) text output answer events e (inl (rest, (here, cut, more))) is =
    inl (rest ++ answer, (here, rw cut refl, answers-told lines text rest answer events e more is))
answers-told (line ∷ lines) text output answer events e (inr (reply, rest, first, later, (cut, told, here, more))) is =
    inr (
      reply,
      rest ++ answer,
      first,
      later ++ e ∷ [],
      (
        ap (λ o. o ++ answer) cut ∙ append_assoc reply rest answer,
        ap (λ es. es ++ e ∷ []) told,
        here,
        answers-told lines text rest answer later e more is,
      ),
    )

-- One line more was run: a line of the language is one event more, and any other text is none.
pub ran-more : {S : Type 0} (step : S → ℕ → Command → Reply → S → Type 0) (w v w' : S) (lines : List (List ℕ))
    (output text answer : List ℕ) → HasRunLines step w lines output v → IsLineRun step text v w' answer →
    HasRunLines step w (lines ++ text ∷ []) (output ++ answer) w'
ran-more {S} step w v w' lines output text answer ran (inl (bad, same, stays)) = record {
  past = ran.past;
  answers =
      let P : List ℕ → Type 0 = λ answer. Answers (lines ++ text ∷ []) (output ++ answer) (reverse ran.past) in
      subst P (sym same) (answers-bad lines text output (reverse ran.past) ran.answers bad);
  steps = rw stays ran.steps;
}
ran-more step w v w' lines output text answer ran (inr (e, (told, stepped))) = record {
  past = e ∷ ran.past;
  answers =
      let P : List Event → Type 0 = λ events. Answers (lines ++ text ∷ []) (output ++ answer) events in
      subst P (sym (reverse-append (e ∷ []) ran.past)) (answers-told lines text output answer (reverse ran.past) e ran.answers told);
  steps = (v, (ran.steps, stepped));
}

-- and its answer was written
pub served-line : {S : Type 0} (step : S → ℕ → Command → Reply → S → Type 0) (w : S) (all rest : List (List ℕ))
    (text : List ℕ) (before now then : Option (List ℕ)) (v w' : S) → Served step w all (text ∷ rest) before now v →
    RunsLine step text v w' now then → Served step w all rest before then w'
served-line step w all rest text before now then v w' so (answer, (line, wrote)) = record {
  lines = so.lines ++ text ∷ [];
  output = so.output ++ answer;
  parts = so.parts ∙ sym (append_assoc so.lines (text ∷ []) rest);
  appended = Appends-append so.output answer before now then so.appended wrote;
  ran = ran-more step w v w' so.lines so.output text answer so.ran line;
}

-- the next line was run, and its answer was cut
pub broken-line : {S : Type 0} (step : S → ℕ → Command → Reply → S → Type 0) (w : S) (all rest : List (List ℕ))
    (text : List ℕ) (before between now : Option (List ℕ)) (v w' : S) →
    Served step w all (text ∷ rest) before between v → CutsLine step text v w' between now →
    Broken step w all before now w'
broken-line step w all rest text before between now v w' so cut = record {
  text = text;
  rest = rest;
  between = between;
  state = v;
  served = so;
  cut = cut;
}

-- the server gave up at the next line
pub stopped-line : {S : Type 0} (step : S → ℕ → Command → Reply → S → Type 0) (w : S) (all rest : List (List ℕ))
    (text : List ℕ) (before between now : Option (List ℕ)) (v : S) →
    Served step w all (text ∷ rest) before between v → now ≡ between → Stopped step w all before now
stopped-line step w all rest text before between now v so same = record {
  text = text;
  rest = rest;
  state = v;
  served = rw same so;
}
