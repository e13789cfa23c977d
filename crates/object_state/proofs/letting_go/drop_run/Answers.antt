-- The span at `at` is dropped.
use Rattle.std.proofs.Common.{arith}
use Rattle.object_state.proofs.DropLemmas.{dropping-all, dropping-ends, dropping-init, dropping-more}
use Rattle.object_state.proofs.letting_go.drop_run.Goals as goal

pub loop-at-init : goal.loop-at-init
loop-at-init g c =
    dropping-init g.S.Span.tells c.args.geometry.now c.args.first c.args.pages
    (record {
      held = c.args.held.now;
      cache = c.args.cache.now;
      fresh = c.args.fresh.now;
      locked = c.args.locked.now;
      rest = g.L.Hints.rest c.args.latches.now;
      trace = g.L.Hints.trace c.args.latches.now;
    }) c.requires.can c.requires.whole

pub drop_span-requires-clause-within : goal.drop_span-requires-clause-within
drop_span-requires-clause-within g c =
    let ends = dropping-ends g.S.Span.tells c.args.geometry.now c.args.first c.args.pages c.loop-at.at c.span_pages-count.result
    (record {
      held = c.args.held.now;
      cache = c.args.cache.now;
      fresh = c.args.fresh.now;
      locked = c.args.locked.now;
      rest = g.L.Hints.rest c.args.latches.now;
      trace = g.L.Hints.trace c.args.latches.now;
    })
    (record {
      held = c.loop-at.held;
      cache = c.loop-at.cache;
      fresh = c.loop-at.fresh;
      locked = c.loop-at.locked;
      rest = g.L.Hints.rest c.loop-at.latches;
      trace = g.L.Hints.trace c.loop-at.latches;
    }) c.requires.whole c.loop-at.invariant c.loop-at-test.true c.span_pages-count.ensures in
    omega (arith, ends, c.requires.within)

pub overflow_add-at : goal.overflow_add-at
overflow_add-at g c =
    let ends = dropping-ends g.S.Span.tells c.args.geometry.now c.args.first c.args.pages c.loop-at.at c.span_pages-count.result
    (record {
      held = c.args.held.now;
      cache = c.args.cache.now;
      fresh = c.args.fresh.now;
      locked = c.args.locked.now;
      rest = g.L.Hints.rest c.args.latches.now;
      trace = g.L.Hints.trace c.args.latches.now;
    })
    (record {
      held = c.loop-at.held;
      cache = c.loop-at.cache;
      fresh = c.loop-at.fresh;
      locked = c.loop-at.locked;
      rest = g.L.Hints.rest c.loop-at.latches;
      trace = g.L.Hints.trace c.loop-at.latches;
    }) c.requires.whole c.loop-at.invariant c.loop-at-test.true c.span_pages-count.ensures in
    omega (arith, ends, c.requires.within)

pub drop_span-requires-clause-room : goal.drop_span-requires-clause-room
drop_span-requires-clause-room g c =
    let ends = dropping-ends g.S.Span.tells c.args.geometry.now c.args.first c.args.pages c.loop-at.at c.span_pages-count.result
    (record {
      held = c.args.held.now;
      cache = c.args.cache.now;
      fresh = c.args.fresh.now;
      locked = c.args.locked.now;
      rest = g.L.Hints.rest c.args.latches.now;
      trace = g.L.Hints.trace c.args.latches.now;
    })
    (record {
      held = c.loop-at.held;
      cache = c.loop-at.cache;
      fresh = c.loop-at.fresh;
      locked = c.loop-at.locked;
      rest = g.L.Hints.rest c.loop-at.latches;
      trace = g.L.Hints.trace c.loop-at.latches;
    }) c.requires.whole c.loop-at.invariant c.loop-at-test.true c.span_pages-count.ensures in
    λ q from to.
    c.loop-at.invariant.dropped.room q (c.requires.room q (omega (arith, from, c.loop-at.invariant.from))
    (omega (arith, to, ends)))

pub loop-at-preserved : goal.loop-at-preserved
loop-at-preserved g c =
    dropping-more g.S.Span.tells c.args.geometry.now c.args.first c.args.pages c.loop-at.at c.span_pages-count.result
    (record {
      held = c.args.held.now;
      cache = c.args.cache.now;
      fresh = c.args.fresh.now;
      locked = c.args.locked.now;
      rest = g.L.Hints.rest c.args.latches.now;
      trace = g.L.Hints.trace c.args.latches.now;
    })
    (record {
      held = c.loop-at.held;
      cache = c.loop-at.cache;
      fresh = c.loop-at.fresh;
      locked = c.loop-at.locked;
      rest = g.L.Hints.rest c.loop-at.latches;
      trace = g.L.Hints.trace c.loop-at.latches;
    })
    (record {
      held = c.drop_span.new.held;
      cache = c.drop_span.new.cache;
      fresh = c.drop_span.new.fresh;
      locked = c.drop_span.new.locked;
      rest = g.L.Hints.rest c.drop_span.new.latches;
      trace = g.L.Hints.trace c.drop_span.new.latches;
    }) c.requires.whole c.loop-at.invariant c.loop-at-test.true c.span_pages-count.ensures c.drop_span.ensures.drops

pub returns : goal.returns
returns g c = record {
  drops = dropping-all g.S.Span.tells c.args.geometry.now c.args.first c.args.pages c.loop-at.at
      (record {
        held = c.args.held.now;
        cache = c.args.cache.now;
        fresh = c.args.fresh.now;
        locked = c.args.locked.now;
        rest = g.L.Hints.rest c.args.latches.now;
        trace = g.L.Hints.trace c.args.latches.now;
      })
      (record {
        held = c.loop-at.held;
        cache = c.loop-at.cache;
        fresh = c.loop-at.fresh;
        locked = c.loop-at.locked;
        rest = g.L.Hints.rest c.loop-at.latches;
        trace = g.L.Hints.trace c.loop-at.latches;
      }) c.loop-at.invariant c.loop-at-test.false;
}
