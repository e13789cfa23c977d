use Rattle.page_set.specs.Words.{in_set}
use Rattle.object_state.proofs.DropLemmas.{IsDroppingMarks}
use Rattle.object_state.proofs.letting_go.let_go.Given as goal

-- the runs that were popped were dropped
abbrev pub invariant-loop-run : goal.invariant-loop-run
invariant-loop-run g l =
    IsDroppingMarks g.S.Span.tells l.geometry (in_set l.fn.gone) (in_set l.gone)
    (record {
      held = l.fn.held;
      cache = l.fn.cache;
      fresh = l.fn.fresh;
      locked = l.fn.locked;
      rest = g.L.Hints.rest l.fn.latches;
      trace = g.L.Hints.trace l.fn.latches;
    })
    (record {
      held = l.held;
      cache = l.cache;
      fresh = l.fresh;
      locked = l.locked;
      rest = g.L.Hints.rest l.latches;
      trace = g.L.Hints.trace l.latches;
    })

abbrev pub decreases-loop-run : goal.decreases-loop-run
decreases-loop-run g l = l.gone.size
