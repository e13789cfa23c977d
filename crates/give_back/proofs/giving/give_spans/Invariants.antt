use Rattle.std.proofs.Common.{◌+◌, ◌-◌}
use Rattle.give_back.proofs.GiveLemmas.{IsGiving}
use Rattle.give_back.proofs.giving.give_spans.Given as goal

-- the pages before `at` were given back
abbrev pub invariant-loop-at : goal.invariant-loop-at
invariant-loop-at g l =
    IsGiving g.S.Span.tells l.geometry l.first l.pages l.at l.fn.held l.held (g.L.Hints.rest l.fn.latches) (g.L.Hints.rest l.latches)
    (g.L.Hints.trace l.fn.latches) (g.L.Hints.trace l.latches)

abbrev pub decreases-loop-at : goal.decreases-loop-at
decreases-loop-at g l = l.first + l.pages - l.at
