-- A run more is in the set.
use Rattle.std.proofs.Common.{◌+◌, drop}
use Rattle.object_state.proofs.RunSetLemmas.{IsAdding, adding-more, next-of}
use Rattle.object_state.proofs.run_sets.add_runs.Goals as goal

pub loop-run-preserved : goal.loop-run-preserved
loop-run-preserved c =
    adding-more c.args.set.now c.loop-run.set c.add.new.self c.args.runs.now (drop (c.loop-run.run-index + 1) c.args.runs.now) _
    (next-of (IsAdding c.args.set.now c.loop-run.set c.args.runs.now) c.args.runs.now c.loop-run.run-index _ c.loop-run-test.true
    c.loop-run.invariant) c.in_ok-add.ensures.added c.add.ensures.keeps
