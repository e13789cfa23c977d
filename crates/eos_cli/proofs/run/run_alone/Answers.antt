-- A status stands for one failure, so what is said of the failure is said of its status.
use Rattle.std.proofs.Common.{◌≡◌, Err, sym, ◌∙◌}
use Rattle.script_run.specs.Status.{status_of}
use Rattle.script_run.proofs.EndsLaws.{status-ended, tells-as, leaves-as}
use Rattle.eos_cli.proofs.run.run_alone.Goals as goal

pub returns-clause-long : goal.returns-clause-long
returns-clause-long g c =
    let r = c.run_words.result in
    tells-as (λ f. r ≡ Err f) (λ f. c.exit_status.result ≡ status_of f) _
    (λ f is. status-ended r f (sym c.exit_status.ensures ∙ is)) c.run_words.ensures.long

pub returns-clause-cut : goal.returns-clause-cut
returns-clause-cut g c =
    let r = c.run_words.result in
    leaves-as (λ f. r ≡ Err f) (λ f. c.exit_status.result ≡ status_of f) _ _ _ _ _ _
    (λ f is. status-ended r f (sym c.exit_status.ensures ∙ is)) c.run_words.ensures.cut
