use Rattle.std.proofs.Common.{drop}
use Rattle.give_back.proofs.RunsLemmas.{IsGivingRuns}
use Rattle.give_back.proofs.giving.give_runs.Given as goal

-- the runs before this one were given back
abbrev pub invariant-loop-run : goal.invariant-loop-run
invariant-loop-run g l =
    IsGivingRuns g.S.Span.tells l.geometry l.runs (drop l.run-index l.runs) l.fn.held l.held l.fn.cache l.cache
    (g.L.Hints.rest l.fn.latches) (g.L.Hints.rest l.latches) (g.L.Hints.trace l.fn.latches) (g.L.Hints.trace l.latches)
