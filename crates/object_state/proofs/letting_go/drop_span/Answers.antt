-- The pages went, or they are locked.
use Rattle.std.proofs.Common.{sym, arith, ◌∙◌}
use Rattle.object_state.proofs.DropLemmas.{drop-given, drop-locked}
use Rattle.object_state.proofs.LetGoLemmas.{locked-one}
use Rattle.give_back.proofs.RunLemmas.{data-run, run-in_frame}
use Rattle.object_state.proofs.MarkLemmas.{whole-lies}
use Rattle.object_state.proofs.letting_go.drop_span.Goals as goal

pub returns-then-has : goal.returns-then-has
returns-then-has g c = record {
  drops = drop-given g.S.Span.tells c.args.geometry.now
      (record {
        held = c.args.held.now;
        cache = c.args.cache.now;
        fresh = c.args.fresh.now;
        locked = c.args.locked.now;
        rest = g.L.Hints.rest c.args.latches.now;
        trace = g.L.Hints.trace c.args.latches.now;
      }) c.give_run.new.held c.give_run.new.cache c.remove.new.self (g.L.Hints.rest c.give_run.new.latches)
      (g.L.Hints.trace c.give_run.new.latches) c.args.first c.args.pages c.requires.can.marked c.requires.span
      (sym c.has.ensures ∙ c.if-has.true)
      c.give_run.ensures.left c.give_run.ensures.given c.remove.ensures.removed;
}

pub give_run-requires-clause-lies : goal.give_run-requires-clause-lies
give_run-requires-clause-lies g c =
    whole-lies c.args.geometry.now c.args.held.now (record { page = c.args.first; pages = c.args.pages }) c.requires.can.on_data
    c.requires.span.whole

pub space_of-space-requires : goal.space_of-space-requires
space_of-space-requires g c =
    c.requires.can.on_data c.args.first
    (c.requires.span.whole.holds c.args.first (omega arith) (omega (arith, c.requires.span.whole.some)))

pub lock_run-requires-clause-run : goal.lock_run-requires-clause-run
lock_run-requires-clause-run g c =
    run-in_frame c.args.geometry.now (g.L.Hints.rest c.args.latches.now).frame c.space_of-space.result c.args.first c.args.pages
    c.requires.can.ready.store c.requires.span.whole.some
    (data-run c.args.geometry.now c.args.first c.args.pages c.space_of-space.result c.space_of-space.ensures.0
    c.space_of-space.ensures.1 c.requires.span.whole.some
    (λ q from to. c.requires.can.on_data q (c.requires.span.whole.holds q from to)))

pub returns : goal.returns
returns g c =
    let lies = run-in_frame c.args.geometry.now (g.L.Hints.rest c.args.latches.now).frame c.space_of-space.result c.args.first
    c.args.pages c.requires.can.ready.store c.requires.span.whole.some
    (data-run c.args.geometry.now c.args.first c.args.pages c.space_of-space.result c.space_of-space.ensures.0
    c.space_of-space.ensures.1 c.requires.span.whole.some
    (λ q from to. c.requires.can.on_data q (c.requires.span.whole.holds q from to))) in
    record {
      drops = drop-locked g.S.Span.tells c.args.geometry.now
          (record {
            held = c.args.held.now;
            cache = c.args.cache.now;
            fresh = c.args.fresh.now;
            locked = c.args.locked.now;
            rest = g.L.Hints.rest c.args.latches.now;
            trace = g.L.Hints.trace c.args.latches.now;
          }) c.add.new.self (g.L.Hints.rest c.lock_run.new.latches) (g.L.Hints.trace c.lock_run.new.latches) c.args.first c.args.pages
          c.requires.can.marked c.requires.span (sym c.has.ensures ∙ c.if-has.false)
          (locked-one c.args.geometry.now c.space_of-space.result c.args.first c.args.pages (g.L.Hints.rest c.args.latches.now)
          (g.L.Hints.rest c.lock_run.new.latches) (g.L.Hints.trace c.args.latches.now) (g.L.Hints.trace c.lock_run.new.latches)
          c.requires.can.ready.store lies c.lock_run.ensures) c.in-Ok.ensures.added c.add.ensures.keeps;
    }
