-- What the loop has done, as a serial history from absent objects.
use Rattle.std.proofs.Common.{◌⊎◌, ℕ, List, [], false, IsTrue, replicate, inl, inr, arith}
use Rattle.base_laws.proofs.ResultLaws.{on_ok}
use Rattle.eos_ops.specs.declared.limits.TheConstants.{SESSIONS}
use Rattle.eos_ops.specs.declared.plain.Plain.{Plain}
use Rattle.eos_ops.specs.declared.plain.Plain.TheVariants.{Absent}
use Rattle.machine.specs.Machine.{Machine, AtRest, fresh}
use Rattle.script_model.specs.Transcript.{script_lines}
use Rattle.script_run.specs.Headline.{CutShort}
use Rattle.script_run.specs.Served.{Broken, Served, Stopped}
use Rattle.script_run.proofs.FailureLemmas.{after_memory, after_output}
use Rattle.script_run.proofs.HeadlineLemmas.{cut_short, done}
use Rattle.world.specs.Ending.{machine_aborted}
use Rattle.eos_cli.specs.declared.run.TheConstants.{OBJECTS}
use Rattle.eos_cli.specs.Headline.{HasSerialRun}
use Rattle.eos_cli.specs.Step.{IsPlainStep}
use Rattle.eos_cli.proofs.StepLemmas.{steps-lead}
use Rattle.eos_cli.proofs.run.run_words.Goals as goal

abbrev db : List Plain
db = replicate OBJECTS Absent

pub returns-clause-done : goal.returns-clause-done
returns-clause-done g c =
    on_ok c.run_script.result
    (λ (ran : (last : Machine) × (Served IsPlainStep c.in-Ok.server (script_lines c.deref.result.now) []
    (g.O.Sink.written c.args.output.now) (g.O.Sink.written c.run_script.new.output) last × _)).
    done IsPlainStep (fresh SESSIONS db) ran.0 (HasSerialRun db)
    (steps-lead db) c.in_ok-script.script.items _ _ _ _ c.in_ok-script.ensures.all c.in_ok-script.ensures.short
    (rw (← c.in-Ok.ensures.first, ← c.deref.ensures.value) ran.1.0))
    c.run_script.ensures.ran

pub returns-clause-cut : goal.returns-clause-cut
returns-clause-cut g c =
    let others = c.run_script.ensures.others in
    record {
      unread = λ same. absurd (grind (arith, same, others));
      silent = λ same. absurd (grind (arith, same, others));
      cut = λ same. let cut = after_output _ _ c.run_script.result c.run_script.ensures.broken same in
          cut_short IsPlainStep (fresh SESSIONS db) cut.0 (HasSerialRun db)
          (steps-lead db) c.in_ok-script.script.items _ _ _ _ c.in_ok-script.ensures.all c.in_ok-script.ensures.short
          (rw (← c.in-Ok.ensures.first, ← c.deref.ensures.value) cut.1.0);
      memory = λ same. elim (after_memory _ _ c.run_script.result c.run_script.ensures.broken same) [
        | inl cut ↦ inr (inl (cut_short IsPlainStep (fresh SESSIONS db) cut.0 (HasSerialRun db)
            (steps-lead db) c.in_ok-script.script.items _ _ _ _ c.in_ok-script.ensures.all
            c.in_ok-script.ensures.short
            (rw (← c.in-Ok.ensures.first, ← c.deref.ensures.value) cut.1.0)))
        | inr stopped ↦ let never : IsTrue false = stopped.0 in absurd (cc never)
      ];
    }
