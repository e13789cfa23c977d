-- An abort closes one session, and where nothing is open there is nothing to do.
use Rattle.std.proofs.Common.{sym, ◌∙◌}
use Rattle.body_world.proofs.Finishing.{stopped-idle, stopped-open}
use Rattle.body_world.proofs.sessions.World.stop.Goals as goal

pub returns-then-not-is_open-clause-stopped : goal.returns-then-not-is_open-clause-stopped
returns-then-not-is_open-clause-stopped g c =
    stopped-idle g.P.S.Span.tells c.args.session c.args.self.now.store (sym c.is_open.ensures.active ∙ c.if-not-is_open.true)
    (c.is_open.ensures.idle c.if-not-is_open.true)

pub returns-clause-stopped : goal.returns-clause-stopped
returns-clause-stopped g c =
    stopped-open g.P.S.Span.tells c.args.session c.args.self.now.store c.end.new.self.store
    (sym c.is_open.ensures.active ∙ c.if-not-is_open.false) c.end.ensures.numbers c.end.ensures.bare c.end.ensures.told
