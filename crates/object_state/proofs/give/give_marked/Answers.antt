-- A run is popped, and its pages go.
use Rattle.page_set.specs.Words.{in_set}
use Rattle.object_state.proofs.GiveLemmas.{marks-more, marks-all}
use Rattle.object_state.proofs.MarkLemmas.{whole-lies, whole-run}
use Rattle.object_state.proofs.give.give_marked.Goals as goal

pub give_run-requires-clause-whole : goal.give_run-requires-clause-whole
give_run-requires-clause-whole g c =
    whole-run c.args.geometry.now c.loop-run.held (in_set c.loop-run.marked) c.in-Some.run'.first c.in-Some.run'.pages
    c.loop-run.invariant.on_data c.loop-run.invariant.marked c.in-Some.ensures.first

pub give_run-requires-clause-lies : goal.give_run-requires-clause-lies
give_run-requires-clause-lies g c =
    whole-lies c.args.geometry.now c.loop-run.held (record { page = c.in-Some.run'.first; pages = c.in-Some.run'.pages })
    c.loop-run.invariant.on_data
    (whole-run c.args.geometry.now c.loop-run.held (in_set c.loop-run.marked) c.in-Some.run'.first c.in-Some.run'.pages
    c.loop-run.invariant.on_data c.loop-run.invariant.marked c.in-Some.ensures.first)

pub loop-run-preserved : goal.loop-run-preserved
loop-run-preserved g c =
    marks-more g.S.Span.tells c.args.geometry.now (in_set c.args.marked.now) (in_set c.loop-run.marked) (in_set c.pop_first_run.new.self)
    c.in-Some.run'.first c.in-Some.run'.pages c.args.held.now c.loop-run.held c.give_run.new.held c.args.cache.now c.loop-run.cache
    c.give_run.new.cache (g.L.Hints.rest c.args.latches.now) (g.L.Hints.rest c.loop-run.latches) (g.L.Hints.rest c.give_run.new.latches)
    (g.L.Hints.trace c.args.latches.now) (g.L.Hints.trace c.loop-run.latches) (g.L.Hints.trace c.give_run.new.latches)
    c.loop-run.invariant c.in-Some.ensures.first c.in-Some.ensures.removed c.give_run.ensures.left c.give_run.ensures.given

pub returns-clause-given : goal.returns-clause-given
returns-clause-given g c =
    (marks-all g.S.Span.tells c.args.geometry.now (in_set c.args.marked.now) (in_set c.loop-run.marked) c.args.held.now c.loop-run.held
    c.args.cache.now c.loop-run.cache (g.L.Hints.rest c.args.latches.now) (g.L.Hints.rest c.loop-run.latches)
    (g.L.Hints.trace c.args.latches.now) (g.L.Hints.trace c.loop-run.latches) c.loop-run.invariant c.in_default.ensures.none).1
