-- A run is popped, and its pages are dropped.
use Rattle.page_set.specs.Words.{in_set}
use Rattle.object_state.proofs.DropLemmas.{marks-all, marks-init, marks-more, marks-run}
use Rattle.object_state.proofs.letting_go.let_go.Goals as goal

pub loop-run-init : goal.loop-run-init
loop-run-init g c =
    marks-init g.S.Span.tells c.args.geometry.now (in_set c.args.gone.now)
    (record {
      held = c.args.held.now;
      cache = c.args.cache.now;
      fresh = c.args.fresh.now;
      locked = c.args.locked.now;
      rest = g.L.Hints.rest c.args.latches.now;
      trace = g.L.Hints.trace c.args.latches.now;
    }) c.requires.can c.requires.marked c.requires.room

pub drop_run-requires-clause-whole : goal.drop_run-requires-clause-whole
drop_run-requires-clause-whole g c =
    marks-run g.S.Span.tells c.args.geometry.now (in_set c.args.gone.now) (in_set c.loop-run.gone) c.in-Some.run'.first
    c.in-Some.run'.pages
    (record {
      held = c.args.held.now;
      cache = c.args.cache.now;
      fresh = c.args.fresh.now;
      locked = c.args.locked.now;
      rest = g.L.Hints.rest c.args.latches.now;
      trace = g.L.Hints.trace c.args.latches.now;
    })
    (record {
      held = c.loop-run.held;
      cache = c.loop-run.cache;
      fresh = c.loop-run.fresh;
      locked = c.loop-run.locked;
      rest = g.L.Hints.rest c.loop-run.latches;
      trace = g.L.Hints.trace c.loop-run.latches;
    }) c.loop-run.invariant c.in-Some.ensures.first

pub drop_run-requires-clause-room : goal.drop_run-requires-clause-room
drop_run-requires-clause-room g c = λ q from to. c.loop-run.invariant.room q (c.in-Some.ensures.first.all q from to)

pub loop-run-preserved : goal.loop-run-preserved
loop-run-preserved g c =
    marks-more g.S.Span.tells c.args.geometry.now (in_set c.args.gone.now) (in_set c.loop-run.gone) (in_set c.pop_first_run.new.self)
    c.in-Some.run'.first c.in-Some.run'.pages
    (record {
      held = c.args.held.now;
      cache = c.args.cache.now;
      fresh = c.args.fresh.now;
      locked = c.args.locked.now;
      rest = g.L.Hints.rest c.args.latches.now;
      trace = g.L.Hints.trace c.args.latches.now;
    })
    (record {
      held = c.loop-run.held;
      cache = c.loop-run.cache;
      fresh = c.loop-run.fresh;
      locked = c.loop-run.locked;
      rest = g.L.Hints.rest c.loop-run.latches;
      trace = g.L.Hints.trace c.loop-run.latches;
    })
    (record {
      held = c.drop_run.new.held;
      cache = c.drop_run.new.cache;
      fresh = c.drop_run.new.fresh;
      locked = c.drop_run.new.locked;
      rest = g.L.Hints.rest c.drop_run.new.latches;
      trace = g.L.Hints.trace c.drop_run.new.latches;
    }) c.loop-run.invariant c.in-Some.ensures.first c.in-Some.ensures.removed c.drop_run.ensures.drops

pub returns : goal.returns
returns g c = record {
  drops = marks-all g.S.Span.tells c.args.geometry.now (in_set c.args.gone.now) (in_set c.loop-run.gone)
      (record {
        held = c.args.held.now;
        cache = c.args.cache.now;
        fresh = c.args.fresh.now;
        locked = c.args.locked.now;
        rest = g.L.Hints.rest c.args.latches.now;
        trace = g.L.Hints.trace c.args.latches.now;
      })
      (record {
        held = c.loop-run.held;
        cache = c.loop-run.cache;
        fresh = c.loop-run.fresh;
        locked = c.loop-run.locked;
        rest = g.L.Hints.rest c.loop-run.latches;
        trace = g.L.Hints.trace c.loop-run.latches;
      }) c.loop-run.invariant c.in_default.ensures.none;
}
