use Rattle.std.proofs.Common.{◌+◌, ◌-◌}
use Rattle.object_state.proofs.DropLemmas.{IsDroppingRun}
use Rattle.object_state.proofs.letting_go.drop_run.Given as goal

-- the pages before `at` were dropped
abbrev pub invariant-loop-at : goal.invariant-loop-at
invariant-loop-at g l =
    IsDroppingRun g.S.Span.tells l.geometry l.first l.pages l.at
    (record {
      held = l.fn.held;
      cache = l.fn.cache;
      fresh = l.fn.fresh;
      locked = l.fn.locked;
      rest = g.L.Hints.rest l.fn.latches;
      trace = g.L.Hints.trace l.fn.latches;
    })
    (record {
      held = l.held;
      cache = l.cache;
      fresh = l.fresh;
      locked = l.locked;
      rest = g.L.Hints.rest l.latches;
      trace = g.L.Hints.trace l.latches;
    })

abbrev pub decreases-loop-at : goal.decreases-loop-at
decreases-loop-at g l = l.first + l.pages - l.at
