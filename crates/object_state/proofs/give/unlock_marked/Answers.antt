-- A run is popped, and its pages are unlocked.
use Rattle.page_set.specs.Words.{in_set}
use Rattle.object_state.proofs.GiveLemmas.{unlocking-run, unlocking-more, unlocking-all}
use Rattle.object_state.proofs.give.unlock_marked.Goals as goal

pub unlock_run-requires-clause-run : goal.unlock_run-requires-clause-run
unlock_run-requires-clause-run g c =
    unlocking-run c.args.geometry.now (in_set c.args.marked.now) (in_set c.loop-run.marked) c.in-Some.run'.first c.in-Some.run'.pages
    c.space_of-space.result c.space_of-space.ensures.0 (g.L.Hints.rest c.args.latches.now) (g.L.Hints.rest c.loop-run.latches)
    (g.L.Hints.trace c.args.latches.now) (g.L.Hints.trace c.loop-run.latches) c.requires.ready.store c.requires.on_data
    c.loop-run.invariant c.in-Some.ensures.first c.space_of-space.ensures.1

pub loop-run-preserved : goal.loop-run-preserved
loop-run-preserved g c =
    unlocking-more c.args.geometry.now (in_set c.args.marked.now) (in_set c.loop-run.marked) (in_set c.pop_first_run.new.self)
    c.in-Some.run'.first c.in-Some.run'.pages c.space_of-space.result c.space_of-space.ensures.0 (g.L.Hints.rest c.args.latches.now)
    (g.L.Hints.rest c.loop-run.latches) (g.L.Hints.rest c.unlock_run.new.latches) (g.L.Hints.trace c.args.latches.now)
    (g.L.Hints.trace c.loop-run.latches) (g.L.Hints.trace c.unlock_run.new.latches) c.requires.ready.store c.requires.on_data
    c.loop-run.invariant c.in-Some.ensures.first c.in-Some.ensures.removed c.space_of-space.ensures.1 c.unlock_run.ensures

pub returns : goal.returns
returns g c = record {
  unlocked = unlocking-all c.args.geometry.now (in_set c.args.marked.now) (in_set c.loop-run.marked) (g.L.Hints.rest c.args.latches.now)
      (g.L.Hints.rest c.loop-run.latches) (g.L.Hints.trace c.args.latches.now) (g.L.Hints.trace c.loop-run.latches)
      c.loop-run.invariant c.in_default.ensures.none;
}
