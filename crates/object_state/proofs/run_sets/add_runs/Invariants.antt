use Rattle.std.proofs.Common.{drop}
use Rattle.object_state.proofs.RunSetLemmas.{IsAdding}
use Rattle.object_state.proofs.run_sets.add_runs.Given as goal

-- the runs so far are in the set
abbrev pub invariant-loop-run : goal.invariant-loop-run
invariant-loop-run l = IsAdding l.fn.set l.set l.runs (drop l.run-index l.runs)
