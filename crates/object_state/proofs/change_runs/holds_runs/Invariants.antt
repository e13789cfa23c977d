use Rattle.std.proofs.Common.{drop}
use Rattle.std.specs.List.{AllByRecursion}
use Rattle.tree_splice.specs.Splice.{extent_of}
use Rattle.object_state.specs.Changes.{IsHeldRun}
use Rattle.object_state.proofs.change_runs.holds_runs.Given as goal

-- where the runs behind are held, all are
abbrev pub invariant-loop-run : goal.invariant-loop-run
invariant-loop-run g l = AllByRecursion (λ run. IsHeldRun l.held (extent_of run)) (drop l.run-index l.runs) →
    AllByRecursion (λ run. IsHeldRun l.held (extent_of run)) l.runs
