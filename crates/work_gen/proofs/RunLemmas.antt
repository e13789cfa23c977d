-- One made line more that was run.
use Rattle.std.proofs.Common.{◌≡◌, ℕ, zero, suc, inr, List, [], ◌∷◌, ◌++◌, map, reverse, flat_map, refl, ap, sym, ◌∙◌, subst}
use Rattle.std.specs.List.{AllByRecursion}
use Rattle.std.proofs.lemmas.List.{reverse-append}
use Rattle.base_laws.proofs.ListLaws.{all-append}
use Rattle.eos_ops.specs.declared.command.Command.{Command}
use Rattle.eos_ops.specs.declared.reply.Reply.{Reply}
use Rattle.eos_ops.specs.declared.reply.Reply.TheVariants as reply
use Rattle.history.specs.Event.{Event}
use Rattle.script_model.specs.declared.line.Line.{Line}
use Rattle.script_model.specs.Grammar.{IsLine, spelled}
use Rattle.script_model.specs.Replies.{reply_line}
use Rattle.script_model.specs.Transcript.{Answers}
use Rattle.script_run.specs.Served.{AreSteps}
use Rattle.work_gen.specs.Generator.{Generator, made_lines, next_line, after_line, after_lines}
use Rattle.work_gen.specs.Summary.{Summary, summary_of, with_reply}
use Rattle.work_gen.specs.Trial.{HasRunMade}

-- the generator after one line more
after-more : (n : ℕ) (g : Generator) → after_lines (suc n) g ≡ after_line (after_lines n g)
after-more zero g = refl
after-more (suc n) g = after-more n (after_line g)

lines-more : (n : ℕ) (g : Generator) → made_lines (suc n) g ≡ made_lines n g ++ next_line (after_lines n g) ∷ []
lines-more zero g = refl
lines-more (suc n) g = ap (λ lines. next_line g ∷ lines) (lines-more n (after_line g))

-- the line of an event
abbrev pub line_of : Event → Line
line_of e = record { session = e.session; command = e.command }

abbrev pub IsOwnLine : Event → Type 0
IsOwnLine e = IsLine (spelled (line_of e)) (line_of e)

-- events that are lines are answered by their replies
told : (es : List Event) → AllByRecursion IsOwnLine es →
    Answers (map spelled (map line_of es)) (flat_map (λ e. reply_line e.session e.reply) es) es
told [] all = (refl, refl)
told (e ∷ es) all = inr (
  reply_line e.session e.reply,
  flat_map (λ e. reply_line e.session e.reply) es,
  e,
  es,
  (refl, refl, record { line = all.0; reply = refl }, told es all.1),
)

-- One reply more is counted once.
counted : (past : List Event) (s : ℕ) (c : Command) (r : Reply) → with_reply r (summary_of past [])
    ≡ summary_of (record { session = s; command = c; reply = r } ∷ past) []
counted past s c reply.Ok = refl
counted past s c (reply.Length n) = refl
counted past s c (reply.Bytes bytes) = refl
counted past s c (reply.Range n) = refl
counted past s c reply.Exists = refl
counted past s c reply.Missing = refl
counted past s c reply.Busy = refl
counted past s c reply.Full = refl
counted past s c reply.NoObject = refl
counted past s c (reply.NoSpace n) = refl
counted past s c reply.Fault = refl
counted past s c reply.Memory = refl
counted past s c reply.Idle = refl
counted past s c reply.Active = refl
counted past s c reply.TooLong = refl
counted past s c reply.Worn = refl
counted past s c (reply.Status free locked held) = refl
counted past s c reply.Again = refl

-- n made lines were run so far
pub record SoFar {S : Type 0} (step : S → ℕ → Command → Reply → S → Type 0) (w : S) (g : Generator) (n : ℕ)
    (work : Generator) (summary : Summary) (w' : S) : Type 0 where
  pub past : List Event
  pub lines : map line_of (reverse past) ≡ made_lines n g
  pub fit : AllByRecursion IsOwnLine (reverse past)
  pub steps : AreSteps step w past w'
  pub moved : work ≡ after_lines n g
  pub told : summary ≡ summary_of past []

pub so-far-none : {S : Type 0} (step : S → ℕ → Command → Reply → S → Type 0) (w : S) (g : Generator) →
    SoFar step w g 0 g (summary_of [] []) w
so-far-none step w g = record { past = []; lines = refl; fit = tt; steps = refl; moved = refl; told = refl }

map-last : (es : List Event) (e : Event) → map line_of (es ++ e ∷ []) ≡ map line_of es ++ line_of e ∷ []
map-last [] e = refl
map-last (f ∷ es) e = ap (λ lines. line_of f ∷ lines) (map-last es e)

pub so-far-more : {S : Type 0} (step : S → ℕ → Command → Reply → S → Type 0) (w v w' : S) (g : Generator) (n : ℕ)
    (work after : Generator) (summary now : Summary) (s : ℕ) (c : Command) (r : Reply) →
    SoFar step w g n work summary v → record { session = s; command = c } ≡ next_line work → after ≡ after_line work →
    IsLine (spelled (record { session = s; command = c })) (record { session = s; command = c }) →
    step v s c r w' → now ≡ with_reply r summary → SoFar step w g (suc n) after now w'
so-far-more step w v w' g n work after summary now s c r so line moved fits stepped one =
    let e : Event = record { session = s; command = c; reply = r } in
    let last : reverse (e ∷ so.past) ≡ reverse so.past ++ e ∷ [] = reverse-append (e ∷ []) so.past in
    record {
      past = e ∷ so.past;
      lines = ap (map line_of) last ∙ map-last (reverse so.past) e
          ∙ ap (λ lines. lines ++ line_of e ∷ []) so.lines
          ∙ ap (λ l. made_lines n g ++ l ∷ []) (line ∙ ap next_line so.moved) ∙ sym (lines-more n g);
      fit =
          let P : List Event → Type 0 = AllByRecursion IsOwnLine in
          subst P (sym last) (all-append IsOwnLine (reverse so.past) (e ∷ []) so.fit (fits, tt));
      steps = (v, (so.steps, stepped));
      moved = moved ∙ ap after_line so.moved ∙ sym (after-more n g);
      told = one ∙ ap (with_reply r) so.told ∙ counted so.past s c r;
    }

-- what was run so far is what was run
pub so-far-run : {S : Type 0} (step : S → ℕ → Command → Reply → S → Type 0) (w w' : S) (g : Generator) (n : ℕ)
    (work : Generator) (summary : Summary) → SoFar step w g n work summary w' → HasRunMade step w g n summary w'
so-far-run step w w' g n work summary so = record {
  output = flat_map (λ e. reply_line e.session e.reply) (reverse so.past);
  ran = record {
    past = so.past;
    answers =
        let P : List Line → Type 0 = λ lines.
        Answers (map spelled lines) (flat_map (λ e. reply_line e.session e.reply) (reverse so.past)) (reverse so.past) in
        subst P so.lines (told (reverse so.past) so.fit);
    steps = so.steps;
  };
  told = so.told;
}
