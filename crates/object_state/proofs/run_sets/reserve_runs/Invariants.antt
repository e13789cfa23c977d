use Rattle.std.proofs.Common.{drop}
use Rattle.object_state.proofs.RunSetLemmas.{IsReserving}
use Rattle.object_state.proofs.run_sets.reserve_runs.Given as goal

-- there is room for the runs so far
abbrev pub invariant-loop-run : goal.invariant-loop-run
invariant-loop-run l = IsReserving l.fn.set l.set l.runs (drop l.run-index l.runs)
