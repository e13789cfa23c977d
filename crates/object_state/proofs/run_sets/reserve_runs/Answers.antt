-- There is room for a run more.
use Rattle.std.proofs.Common.{◌+◌, drop}
use Rattle.std.proofs.lemmas.List.{drop_all}
use Rattle.object_state.proofs.RunSetLemmas.{IsReserving, next-of, reserving-all, reserving-more}
use Rattle.object_state.proofs.run_sets.reserve_runs.Goals as goal

pub loop-run-preserved : goal.loop-run-preserved
loop-run-preserved c =
    reserving-more c.args.set.now c.loop-run.set c.reserve.new.self c.args.runs.now (drop (c.loop-run.run-index + 1) c.args.runs.now) _
    (next-of (IsReserving c.args.set.now c.loop-run.set c.args.runs.now) c.args.runs.now c.loop-run.run-index _ c.loop-run-test.true
    c.loop-run.invariant) c.in_ok-reserve.ensures.room c.reserve.ensures.same c.reserve.ensures.size c.reserve.ensures.keeps

pub returns-clause-room : goal.returns-clause-room
returns-clause-room c =
    reserving-all c.args.set.now c.loop-run.set c.args.runs.now (drop c.loop-run.run-index c.args.runs.now)
    (drop_all c.loop-run.run-index c.args.runs.now c.loop-run-test.false) c.loop-run.invariant
