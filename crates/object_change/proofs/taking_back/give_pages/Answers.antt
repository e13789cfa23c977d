-- Each page is given back.
use Rattle.std.proofs.Common.{◌≡◌, ◌+◌, List, [], drop, get_or, map, subst, arith}
use Rattle.std.proofs.lemmas.List.{at_drop_more, drop_all}
use Rattle.layout_model.specs.declared.extent.Extent.{Extent}
use Rattle.moment_laws.specs.Granting.{page_run}
use Rattle.page_set.specs.declared.page_run.PageRun.{PageRun}
use Rattle.tree_splice.specs.Splice.{firsts_of}
use Rattle.give_back.specs.Giving.{CanGiveRuns}
use Rattle.give_back.proofs.RunsLemmas.{IsGivingRuns, giving_runs-init, giving_runs-more, giving_runs-all, still-ready}
use Rattle.object_change.proofs.taking_back.give_pages.Goals as goal

abbrev none : PageRun
none = record { first = 0; pages = 0 }

abbrev runs_of : List PageRun → List Extent
runs_of pages = map page_run (firsts_of pages)

pub loop-page-init : goal.loop-page-init
loop-page-init g c =
    giving_runs-init g.S.Span.tells c.args.geometry.now (runs_of c.args.pages.now) c.args.held.now c.args.cache.now
    (g.L.Hints.rest c.args.latches.now) (g.L.Hints.trace c.args.latches.now) c.requires.ready.none c.requires.can c.requires.sized

pub give_run-requires-clause-ready : goal.give_run-requires-clause-ready
give_run-requires-clause-ready g c =
    still-ready c.args.geometry.now (g.L.Hints.rest c.args.latches.now) (g.L.Hints.rest c.loop-page.latches) c.requires.ready
    c.loop-page.invariant.given.rest

pub give_run-requires-clause-lies : goal.give_run-requires-clause-lies
give_run-requires-clause-lies g c =
    (subst (CanGiveRuns c.args.geometry.now c.loop-page.held)
    (at_drop_more runs_of c.args.pages.now c.loop-page.page-index none c.loop-page-test.true) c.loop-page.invariant.can).lie.0

pub give_run-requires-clause-whole : goal.give_run-requires-clause-whole
give_run-requires-clause-whole g c =
    (subst (CanGiveRuns c.args.geometry.now c.loop-page.held)
    (at_drop_more runs_of c.args.pages.now c.loop-page.page-index none c.loop-page-test.true) c.loop-page.invariant.can).own.0

pub loop-page-preserved : goal.loop-page-preserved
loop-page-preserved g c =
    let i = c.loop-page.page-index in
    let pages = c.args.pages.now in
    giving_runs-more g.S.Span.tells c.args.geometry.now (runs_of pages) (runs_of (drop i pages)) (runs_of (drop (i + 1) pages))
    (page_run (get_or pages i none).first) c.args.held.now c.loop-page.held c.give_run.new.held c.args.cache.now c.loop-page.cache
    c.give_run.new.cache (g.L.Hints.rest c.args.latches.now) (g.L.Hints.rest c.loop-page.latches) (g.L.Hints.rest c.give_run.new.latches)
    (g.L.Hints.trace c.args.latches.now) (g.L.Hints.trace c.loop-page.latches) (g.L.Hints.trace c.give_run.new.latches)
    (at_drop_more runs_of pages i none c.loop-page-test.true) c.loop-page.invariant c.give_run.ensures.left c.give_run.ensures.given

pub returns : goal.returns
returns g c =
    let pages = c.args.pages.now in
    let none_left : drop c.loop-page.page-index pages ≡ [] = drop_all c.loop-page.page-index pages (omega arith) in
    let all = giving_runs-all g.S.Span.tells c.args.geometry.now (runs_of pages) c.args.held.now c.loop-page.held c.args.cache.now
    c.loop-page.cache (g.L.Hints.rest c.args.latches.now) (g.L.Hints.rest c.loop-page.latches) (g.L.Hints.trace c.args.latches.now)
    (g.L.Hints.trace c.loop-page.latches)
    (subst (λ (l : List PageRun). IsGivingRuns g.S.Span.tells c.args.geometry.now (runs_of pages) (runs_of l) c.args.held.now
    c.loop-page.held c.args.cache.now c.loop-page.cache (g.L.Hints.rest c.args.latches.now) (g.L.Hints.rest c.loop-page.latches)
    (g.L.Hints.trace c.args.latches.now) (g.L.Hints.trace c.loop-page.latches)) none_left c.loop-page.invariant) in
    record { left = all.0; given = all.1 }
