use Rattle.std.proofs.Common.{drop}
use Rattle.object_state.proofs.RunSetLemmas.{IsRemoving}
use Rattle.object_state.proofs.run_sets.remove_runs.Given as goal

-- the runs so far are out of the set
abbrev pub invariant-loop-run : goal.invariant-loop-run
invariant-loop-run l = IsRemoving l.fn.set l.set l.runs (drop l.run-index l.runs)
