-- A command that was served over plain objects, as a step, and steps as a run.
use Rattle.std.proofs.Common.{◌≡◌, ℕ, ◌<◌, ◌≤◌, List, [], ◌∷◌, length, refl, sym, ap, ◌∙◌, subst, inl, inr, arith}
use Rattle.std.specs.Prelude.{IsTrue}
use Rattle.std.specs.List.{AllByRecursion}
use Rattle.eos_ops.specs.declared.command.Command.{Command}
use Rattle.eos_ops.specs.declared.limits.TheConstants.{SESSIONS}
use Rattle.eos_ops.specs.declared.plain.Plain.{Plain}
use Rattle.eos_ops.specs.declared.reply.Reply.{Reply}
use Rattle.eos_ops.specs.declared.reply.Reply.TheVariants as reply
use Rattle.history.specs.Event.{Event, deed_of}
use Rattle.machine.specs.Machine.{Machine, IsSession, fresh}
use Rattle.machine.specs.Next.{next}
use Rattle.machine.specs.Replies.{IsStep}
use Rattle.machine.specs.Runs.{IsEvent, IsRun, state_after}
use Rattle.machine.proofs.Answering.{deed_memory}
use Rattle.machine.proofs.Replying.{Replies-answers}
use Rattle.script_run.specs.Served.{AreSteps, HasRunLines}
use Rattle.script_run.proofs.HeadlineLemmas.{Leads, serial_run}
use Rattle.script_text.specs.Failing.{BringsBytes}
use Rattle.script_text.proofs.MemoryLemmas.{brings-memory}
use Rattle.eos_cli.specs.Headline.{HasSerialRun}
use Rattle.eos_cli.specs.Step.{IsPlainStep, is_plain_reply}
use Rattle.eos_cli.proofs.PlainLemmas.{plain_reply}

session_of : (m : Machine) (s : ℕ) → 0 < s → s ≤ SESSIONS → length m.seats ≡ SESSIONS → IsSession m s
session_of m s low high seats = record { from_one = low; within = omega (arith, high, seats) }

-- a step of the machine
pub step-served : (m w m' : Machine) (s : ℕ) (c : Command) (r : Reply) → m ≡ w → 0 < s → s ≤ SESSIONS →
    length m.seats ≡ SESSIONS → IsStep w s c r m' → IsPlainStep m s c r m'
step-served m w m' s c r same low high seats step =
    let own : IsStep m s c r m' = rw same step in
    record {
      event = record { session = session_of m s low high seats; reply = Replies-answers m s c r own.reply };
      plain = plain_reply m s c r own.reply;
      state = own.state;
    }

-- a command for whose bytes there was no memory: nothing has changed
pub step-unread : (m : Machine) (s : ℕ) (c : Command) → 0 < s → s ≤ SESSIONS → length m.seats ≡ SESSIONS →
    BringsBytes c → IsPlainStep m s c reply.Memory m
step-unread m s c low high seats brings = record {
  event = record { session = session_of m s low high seats; reply = inl (refl, brings-memory c brings) };
  plain = refl;
  state = ap (λ d. next m s d) (sym (deed_memory c));
}

-- what steps lead to
record AreRun (m : Machine) (past : List Event) (m' : Machine) : Type 0 where
  state : m' ≡ state_after m past
  run : IsRun m past
  plain : AllByRecursion (λ e. IsTrue (is_plain_reply e.reply)) past

steps-run : (m : Machine) (past : List Event) (m' : Machine) → AreSteps IsPlainStep m past m' → AreRun m past m'
steps-run m [] m' same = record { state = same; run = tt; plain = tt }
steps-run m (e ∷ past) m' (v, (steps, step)) =
    let before = steps-run m past v steps in
    record {
      state = step.state ∙ ap (λ x. next x e.session (deed_of e)) before.state;
      run = (before.run, subst (λ x. IsEvent x e) before.state step.event);
      plain = (step.plain, before.plain);
    }

-- lines that were run over new objects
pub steps-lead : (db : List Plain) → Leads IsPlainStep (fresh SESSIONS db) (HasSerialRun db)
steps-lead db lines output m' short ran =
    let are = steps-run (fresh SESSIONS db) ran.past m' ran.steps in
    record {
      past = ran.past;
      run = serial_run db lines output ran.past short ran.answers are.run;
      plain = are.plain;
    }
