-- Each run is given back.
use Rattle.std.proofs.Common.{◌≡◌, ◌+◌, List, [], drop, get_or, subst, arith}
use Rattle.std.proofs.lemmas.List.{at_drop_more, drop_all}
use Rattle.layout_model.specs.declared.extent.Extent.{Extent}
use Rattle.give_back.specs.Giving.{CanGiveRuns}
use Rattle.give_back.proofs.RunsLemmas.{IsGivingRuns, giving_runs-init, giving_runs-more, giving_runs-all, still-ready}
use Rattle.give_back.proofs.giving.give_runs.Goals as goal

abbrev none : Extent
none = record { page = 0; pages = 0 }

pub loop-run-init : goal.loop-run-init
loop-run-init g c =
    giving_runs-init g.S.Span.tells c.args.geometry.now c.args.runs.now c.args.held.now c.args.cache.now
    (g.L.Hints.rest c.args.latches.now) (g.L.Hints.trace c.args.latches.now) c.requires.ready.none c.requires.can c.requires.sized

pub give_run-requires-clause-ready : goal.give_run-requires-clause-ready
give_run-requires-clause-ready g c =
    still-ready c.args.geometry.now (g.L.Hints.rest c.args.latches.now) (g.L.Hints.rest c.loop-run.latches) c.requires.ready
    c.loop-run.invariant.given.rest

pub give_run-requires-clause-lies : goal.give_run-requires-clause-lies
give_run-requires-clause-lies g c =
    let i = c.loop-run.run-index in
    (subst (CanGiveRuns c.args.geometry.now c.loop-run.held)
    (at_drop_more (λ (l : List Extent). l) c.args.runs.now i none c.loop-run-test.true) c.loop-run.invariant.can).lie.0

pub give_run-requires-clause-whole : goal.give_run-requires-clause-whole
give_run-requires-clause-whole g c =
    let i = c.loop-run.run-index in
    (subst (CanGiveRuns c.args.geometry.now c.loop-run.held)
    (at_drop_more (λ (l : List Extent). l) c.args.runs.now i none c.loop-run-test.true) c.loop-run.invariant.can).own.0

pub loop-run-preserved : goal.loop-run-preserved
loop-run-preserved g c =
    let i = c.loop-run.run-index in
    let runs = c.args.runs.now in
    giving_runs-more g.S.Span.tells c.args.geometry.now runs (drop i runs) (drop (i + 1) runs) (get_or runs i none) c.args.held.now
    c.loop-run.held c.give_run.new.held c.args.cache.now c.loop-run.cache c.give_run.new.cache (g.L.Hints.rest c.args.latches.now)
    (g.L.Hints.rest c.loop-run.latches) (g.L.Hints.rest c.give_run.new.latches) (g.L.Hints.trace c.args.latches.now)
    (g.L.Hints.trace c.loop-run.latches) (g.L.Hints.trace c.give_run.new.latches)
    (at_drop_more (λ (l : List Extent). l) runs i none c.loop-run-test.true) c.loop-run.invariant c.give_run.ensures.left
    c.give_run.ensures.given

pub returns : goal.returns
returns g c =
    let runs = c.args.runs.now in
    let none_left : drop c.loop-run.run-index runs ≡ [] = drop_all c.loop-run.run-index runs (omega arith) in
    let all = giving_runs-all g.S.Span.tells c.args.geometry.now runs c.args.held.now c.loop-run.held c.args.cache.now c.loop-run.cache
    (g.L.Hints.rest c.args.latches.now) (g.L.Hints.rest c.loop-run.latches) (g.L.Hints.trace c.args.latches.now)
    (g.L.Hints.trace c.loop-run.latches)
    (subst (λ (l : List Extent). IsGivingRuns g.S.Span.tells c.args.geometry.now runs l c.args.held.now c.loop-run.held
    c.args.cache.now c.loop-run.cache (g.L.Hints.rest c.args.latches.now) (g.L.Hints.rest c.loop-run.latches)
    (g.L.Hints.trace c.args.latches.now) (g.L.Hints.trace c.loop-run.latches)) none_left c.loop-run.invariant) in
    record { left = all.0; given = all.1 }
