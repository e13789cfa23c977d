use Rattle.std.proofs.Common.{◌≡◌}
use Rattle.body_world.specs.Ending.{HaveStopped}
use Rattle.body_world.proofs.sessions.World.stop_all.Given as goal

-- the first sessions have stopped
abbrev pub invariant-loop-place : goal.invariant-loop-place
invariant-loop-place g l = record {
  stopped : HaveStopped g.P.S.Span.tells l.place l.fn.self.store l.self.store;
  port : l.self.meter ≡ l.fn.self.meter;
}
