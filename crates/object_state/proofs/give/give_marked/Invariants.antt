use Rattle.page_set.specs.Words.{in_set}
use Rattle.object_state.proofs.GiveLemmas.{IsGivingMarks}
use Rattle.object_state.proofs.give.give_marked.Given as goal

-- the runs that were popped were given back
abbrev pub invariant-loop-run : goal.invariant-loop-run
invariant-loop-run g l =
    IsGivingMarks g.S.Span.tells l.geometry (in_set l.fn.marked) (in_set l.marked) l.fn.held l.held l.fn.cache l.cache
    (g.L.Hints.rest l.fn.latches) (g.L.Hints.rest l.latches) (g.L.Hints.trace l.fn.latches) (g.L.Hints.trace l.latches)

abbrev pub decreases-loop-run : goal.decreases-loop-run
decreases-loop-run g l = l.marked.size
