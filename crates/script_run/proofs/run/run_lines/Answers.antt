-- Each line that was run is one more, or the one whose answer was cut.
use Rattle.std.proofs.Common.{ℕ, List, subst, ◌∙◌}
use Rattle.script_model.specs.Transcript.{script_lines}
use Rattle.script_run.specs.Served.{Served}
use Rattle.script_run.proofs.ServedLemmas.{served-none, served-line}
use Rattle.script_run.proofs.run.run_lines.Goals as goal

pub lines-preserved : goal.lines-preserved
lines-preserved g c =
    let P : List (List ℕ) → Type 0 = λ rest. Served g.W.Server.step c.args.server.now
    (script_lines c.args.script.now) rest (g.O.Sink.written c.args.output.now)
    (g.O.Sink.written c.lines.output) c.lines.server in
    record {
      served = served-line g.W.Server.step c.args.server.now (script_lines c.args.script.now) _ _
          (g.O.Sink.written c.args.output.now) _ _ _ _ (subst P c.cut_line.ensures.cut c.lines.invariant.served)
          c.in_ok-run_line.ensures.ran;
      ready = c.in_ok-run_line.ensures.ready;
      still = c.in_ok-run_line.ensures.cause.still (λ same. cc same) ∙ c.lines.invariant.still;
    }
