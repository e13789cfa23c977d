-- An end is a step of the store, and with nothing open there is none.
use Rattle.std.proofs.Common.{sym, ◌∙◌}
use Rattle.eos_ops.specs.declared.limits.TheConstants.{SESSIONS}
use Rattle.body_world.proofs.Stepping.{session-in, owed-idle, told-idle, owed-closed, told-closed}
use Rattle.body_world.proofs.sessions.World.close.Goals as goal

pub returns-then-not-is_open-clause-owed : goal.returns-then-not-is_open-clause-owed
returns-then-not-is_open-clause-owed g c =
    owed-idle c.args.self.now.store.machine c.args.session c.args.committed
    (session-in c.args.self.now.store.machine c.args.session SESSIONS c.is_open.ensures.sessions c.requires.from_one c.requires.upto)
    (sym c.is_open.ensures.active ∙ c.if-not-is_open.true)

pub returns-then-not-is_open-clause-told : goal.returns-then-not-is_open-clause-told
returns-then-not-is_open-clause-told g c tells lengths =
    told-idle g.B.Body.laid c.args.self.now.store c.args.session c.args.committed
    (session-in c.args.self.now.store.machine c.args.session SESSIONS c.is_open.ensures.sessions c.requires.from_one c.requires.upto)
    (sym c.is_open.ensures.active ∙ c.if-not-is_open.true)

pub returns-clause-owed : goal.returns-clause-owed
returns-clause-owed g c =
    owed-closed c.args.self.now.store.machine c.end.new.self.store.machine c.args.session c.args.committed
    (session-in c.args.self.now.store.machine c.args.session SESSIONS c.is_open.ensures.sessions c.requires.from_one c.requires.upto)
    (sym c.is_open.ensures.active ∙ c.if-not-is_open.false) c.end.ensures.bare

pub returns-clause-told : goal.returns-clause-told
returns-clause-told g c tells lengths =
    told-closed g.B.Body.laid c.args.self.now.store c.end.new.self.store c.args.session c.args.committed
    (session-in c.args.self.now.store.machine c.args.session SESSIONS c.is_open.ensures.sessions c.requires.from_one c.requires.upto)
    (sym c.is_open.ensures.active ∙ c.if-not-is_open.false) c.end.ensures.numbers (c.end.ensures.told tells)
