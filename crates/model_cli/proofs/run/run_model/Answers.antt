-- What the loop has done, as one run of a store of absent objects.
use Rattle.std.proofs.Common.{◌≡◌, ◌⊎◌, ℕ, List, [], replicate, inl, inr, arith}
use Rattle.base_laws.proofs.ResultLaws.{on_ok}
use Rattle.eos_ops.specs.declared.plain.Plain.{Plain}
use Rattle.eos_ops.specs.declared.plain.Plain.TheVariants.{Absent}
use Rattle.geometry_model.specs.Numbers.{Numbers, IsInRange, objects}
use Rattle.moment_model.specs.Moment.{Moment, absent_slot}
use Rattle.moment_model.specs.Version.{IsGood}
use Rattle.plain_moment.specs.Stored.{Stored, IsStoreStep, store_of}
use Rattle.plain_plan.specs.Store.{numbers_of}
use Rattle.script_model.specs.Transcript.{script_lines}
use Rattle.script_run.specs.Served.{Served}
use Rattle.script_run.proofs.FailureLemmas.{after_memory, after_output}
use Rattle.script_run.proofs.HeadlineLemmas.{Leads, cut_short, done, given_up}
use Rattle.store_moment_laws.proofs.FirstLemmas.{absent-sound, absent-tails, fresh-absent}
use Rattle.model_cli.specs.Headline.{HasStoreRun, store_at_rest}
use Rattle.model_cli.proofs.StepLemmas.{steps-lead}
use Rattle.model_cli.proofs.UsageLemmas.{not-usage, run-not-usage}
use Rattle.model_cli.proofs.run.run_model.Goals as goal

abbrev db : Numbers → List Plain
db n = replicate (objects n) Absent

abbrev first : Numbers → Moment
first n = replicate (objects n) absent_slot

leads : (n : Numbers) (w : Stored) → IsInRange n → store_of w ≡ store_at_rest n (db n) (first n) →
    Leads IsStoreStep w (HasStoreRun n (db n) (first n))
leads n w range rest =
    let absent = fresh-absent (objects n) in
    steps-lead n (db n) (first n) w rest range (absent-sound IsGood n _ (first n) absent) (absent-tails n (first n) absent)

pub returns-clause-done : goal.returns-clause-done
returns-clause-done g c =
    let n = numbers_of c.in-Some.numbers in
    let w = c.in-Ok.server in
    on_ok c.run_script.result
    (λ (ran : (last : Stored) × (Served IsStoreStep w (script_lines c.deref.result.now) []
    (g.O.Sink.written c.args.output.now) (g.O.Sink.written c.run_script.new.output) last × _)). (
      n,
      (
        c.in-Some.ensures,
        done IsStoreStep w ran.0 (HasStoreRun n (db n) (first n))
            (leads n w c.in-Some.ensures.range c.in-Ok.ensures.first) c.in_ok-script.script.items _ _ _ _
            c.in_ok-script.ensures.all c.in_ok-script.ensures.short
            (rw (← c.deref.ensures.value) ran.1.0),
      ),
    ))
    c.run_script.ensures.ran

pub returns-clause-cut : goal.returns-clause-cut
returns-clause-cut g c =
    let n = numbers_of c.in-Some.numbers in
    let w = c.in-Ok.server in
    let others = c.run_script.ensures.others in
    record {
      unread = λ same. absurd (grind (arith, same, others));
      silent = λ same. absurd (grind (arith, same, others));
      cut = λ same. let cut = after_output _ _ c.run_script.result c.run_script.ensures.broken same in (
        n,
        (
          c.in-Some.ensures,
          cut_short IsStoreStep w cut.0 (HasStoreRun n (db n) (first n))
              (leads n w c.in-Some.ensures.range c.in-Ok.ensures.first) c.in_ok-script.script.items _ _ _ _
              c.in_ok-script.ensures.all c.in_ok-script.ensures.short
              (rw (← c.deref.ensures.value) cut.1.0),
        ),
      );
      memory = λ same. elim (after_memory _ _ c.run_script.result c.run_script.ensures.broken same) [
        | inl cut ↦ inr (inl (
          n,
          (
            c.in-Some.ensures,
            cut_short IsStoreStep w cut.0 (HasStoreRun n (db n) (first n))
                (leads n w c.in-Some.ensures.range c.in-Ok.ensures.first) c.in_ok-script.script.items _ _ _ _
                c.in_ok-script.ensures.all c.in_ok-script.ensures.short
                (rw (← c.deref.ensures.value) cut.1.0),
          ),
        ))
        | inr stopped ↦ inr (inr (
          n,
          (
            c.in-Some.ensures,
            given_up IsStoreStep w (HasStoreRun n (db n) (first n))
                (leads n w c.in-Some.ensures.range c.in-Ok.ensures.first) c.in_ok-script.script.items _ _ _ _
                c.in_ok-script.ensures.all c.in_ok-script.ensures.short
                (rw (← c.deref.ensures.value) stopped.1),
          ),
        ))
      ];
    }

pub returns-in_err-script-clause-usage : goal.returns-in_err-script-clause-usage
returns-in_err-script-clause-usage g c =
    not-usage _ (numbers_of c.in-Some.numbers) c.from_residual.result c.in-Some.ensures
    (λ same. let others = c.in_err-script.ensures.others in grind (arith, same, others, c.from_residual.ensures))

pub returns-in_default-new-clause-usage : goal.returns-in_default-new-clause-usage
returns-in_default-new-clause-usage g c = not-usage _ (numbers_of c.in-Some.numbers) _ c.in-Some.ensures (λ same. cc same)

pub returns-clause-usage : goal.returns-clause-usage
returns-clause-usage g c =
    not-usage _ (numbers_of c.in-Some.numbers) c.run_script.result c.in-Some.ensures
    (run-not-usage c.run_script.result c.run_script.ensures.others)
