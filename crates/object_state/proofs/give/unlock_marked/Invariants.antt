use Rattle.page_set.specs.Words.{in_set}
use Rattle.object_state.proofs.GiveLemmas.{IsUnlocking}
use Rattle.object_state.proofs.give.unlock_marked.Given as goal

-- the runs that were popped were unlocked
abbrev pub invariant-loop-run : goal.invariant-loop-run
invariant-loop-run g l =
    IsUnlocking l.geometry (in_set l.fn.marked) (in_set l.marked) (g.L.Hints.rest l.fn.latches) (g.L.Hints.rest l.latches)
    (g.L.Hints.trace l.fn.latches) (g.L.Hints.trace l.latches)

abbrev pub decreases-loop-run : goal.decreases-loop-run
decreases-loop-run g l = l.marked.size
