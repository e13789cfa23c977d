-- Session by session nothing is open any more.
use Rattle.std.proofs.Common.{◌≡◌, ◌∙◌, refl, subst, arith}
use Rattle.eos_ops.specs.declared.limits.TheConstants.{SESSIONS}
use Rattle.body_world.specs.Ending.{HaveStopped}
use Rattle.body_world.proofs.Finishing.{stopped-none, stopped-more}
use Rattle.body_world.proofs.sessions.World.stop_all.Goals as goal

pub loop-place-init : goal.loop-place-init
loop-place-init g c = record { stopped = stopped-none _ _ _ refl; port = refl }

pub loop-place-preserved : goal.loop-place-preserved
loop-place-preserved g c = record {
  stopped = stopped-more _ c.loop-place.place _ c.loop-place.self.store c.stop.new.self.store (omega arith)
      c.loop-place.invariant.stopped c.stop.ensures.stopped;
  port = c.stop.ensures.port ∙ c.loop-place.invariant.port;
}

pub returns-clause-stopped : goal.returns-clause-stopped
returns-clause-stopped g c =
    let all : c.loop-place.place ≡ SESSIONS = omega arith in
    subst (λ k. HaveStopped g.P.S.Span.tells k c.args.self.now.store c.loop-place.self.store) all c.loop-place.invariant.stopped
