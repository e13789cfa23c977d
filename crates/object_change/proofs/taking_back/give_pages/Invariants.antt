use Rattle.std.proofs.Common.{drop, map}
use Rattle.moment_laws.specs.Granting.{page_run}
use Rattle.tree_splice.specs.Splice.{firsts_of}
use Rattle.give_back.proofs.RunsLemmas.{IsGivingRuns}
use Rattle.object_change.proofs.taking_back.give_pages.Given as goal

-- the pages before this one were given back
abbrev pub invariant-loop-page : goal.invariant-loop-page
invariant-loop-page g l =
    IsGivingRuns g.S.Span.tells l.geometry (map page_run (firsts_of l.pages)) (map page_run (firsts_of (drop l.page-index l.pages)))
    l.fn.held l.held l.fn.cache l.cache (g.L.Hints.rest l.fn.latches) (g.L.Hints.rest l.latches) (g.L.Hints.trace l.fn.latches)
    (g.L.Hints.trace l.latches)
