-- A run more has its borders.
use Rattle.std.proofs.Common.{◌+◌, drop}
use Rattle.object_state.proofs.CutLemmas.{cutting-more, next-run}
use Rattle.object_state.proofs.cutting.cut_runs.Goals as goal

pub loop-run-preserved : goal.loop-run-preserved
loop-run-preserved g c = record {
  cutting = cutting-more c.args.held.now c.loop-run.held c.cut_border.new.held c.cut_border-in-loop-run.new.held c.args.runs.now
      (drop (c.loop-run.run-index + 1) c.args.runs.now) _
      (next-run c.args.held.now c.loop-run.held c.args.runs.now c.loop-run.run-index _ c.loop-run-test.true c.loop-run.invariant.cutting)
      c.cut_border.ensures.cut c.cut_border.ensures.begun c.cut_border-in-loop-run.ensures.cut c.cut_border-in-loop-run.ensures.begun;
  sized = λ size all.
      c.cut_border-in-loop-run.ensures.sized size (c.cut_border.ensures.sized size (c.loop-run.invariant.sized size all));
}
