-- Each command is a step of the store.
use Rattle.std.proofs.Common.{refl, sym, ap, ◌∙◌}
use Rattle.body_world.proofs.Asking.{port-still}
use Rattle.body_world.proofs.Costs.{moves-none}
use Rattle.body_world.proofs.Readings.{session-read}
use Rattle.body_world.proofs.Stepping.{owed-too_long, told-too_long}
use Rattle.body_world.proofs.sessions.World.step.Goals as goal

pub returns-then-is_too_long-clause-owed : goal.returns-then-is_too_long-clause-owed
returns-then-is_too_long-clause-owed g c =
    owed-too_long c.args.self.now.store.machine c.args.session c.args.command
    (session-read _ c.self.inside.objects c.self.inside.sessions.items c.args.self.now.store.machine c.args.session
    (ap (λ w. w.store.machine) c.self.view_is) c.requires.from_one c.requires.upto c.self.invariant.work.shares)
    (sym c.is_too_long.ensures ∙ c.if-is_too_long.true)

pub returns-then-is_too_long-clause-told : goal.returns-then-is_too_long-clause-told
returns-then-is_too_long-clause-told g c tells on_pages =
    told-too_long g.B.Body.laid c.args.self.now.store c.args.session c.args.command
    (session-read _ c.self.inside.objects c.self.inside.sessions.items c.args.self.now.store.machine c.args.session
    (ap (λ w. w.store.machine) c.self.view_is) c.requires.from_one c.requires.upto c.self.invariant.work.shares)
    (sym c.is_too_long.ensures ∙ c.if-is_too_long.true)

pub returns-then-is_too_long-clause-port : goal.returns-then-is_too_long-clause-port
returns-then-is_too_long-clause-port g c = port-still _ _ _ refl (λ e. cc)

pub returns-then-is_too_long-clause-pages : goal.returns-then-is_too_long-clause-pages
returns-then-is_too_long-clause-pages g c tells =
    moves-none g.B.Body.may_write g.B.Body.may_read c.args.self.now.store c.args.self.now.store c.args.command
    c.args.self.now.meter c.args.self.now.meter refl

pub returns-in-Begin-clause-port : goal.returns-in-Begin-clause-port
returns-in-Begin-clause-port g c = port-still _ _ _ c.begin.ensures.port c.begin.ensures.fault

pub returns-in-Begin-clause-pages : goal.returns-in-Begin-clause-pages
returns-in-Begin-clause-pages g c tells =
    moves-none g.B.Body.may_write g.B.Body.may_read c.args.self.now.store c.begin.new.self.store c.args.command
    c.args.self.now.meter c.begin.new.self.meter c.begin.ensures.port

pub returns-in-Commit-clause-port : goal.returns-in-Commit-clause-port
returns-in-Commit-clause-port g c = port-still _ _ _ c.close.ensures.port c.close.ensures.fault

pub returns-in-Commit-clause-pages : goal.returns-in-Commit-clause-pages
returns-in-Commit-clause-pages g c tells =
    moves-none g.B.Body.may_write g.B.Body.may_read c.args.self.now.store c.close.new.self.store c.args.command
    c.args.self.now.meter c.close.new.self.meter c.close.ensures.port

pub returns-in-Abort-clause-port : goal.returns-in-Abort-clause-port
returns-in-Abort-clause-port g c = port-still _ _ _ c.close-in-Abort.ensures.port c.close-in-Abort.ensures.fault

pub returns-in-Abort-clause-pages : goal.returns-in-Abort-clause-pages
returns-in-Abort-clause-pages g c tells =
    moves-none g.B.Body.may_write g.B.Body.may_read c.args.self.now.store c.close-in-Abort.new.self.store c.args.command
    c.args.self.now.meter c.close-in-Abort.new.self.meter c.close-in-Abort.ensures.port

pub returns-in-Status-clause-port : goal.returns-in-Status-clause-port
returns-in-Status-clause-port g c = port-still _ _ _ c.status.ensures.port c.status.ensures.fault

pub returns-in-Status-clause-pages : goal.returns-in-Status-clause-pages
returns-in-Status-clause-pages g c tells =
    moves-none g.B.Body.may_write g.B.Body.may_read c.args.self.now.store c.status.new.self.store c.args.command
    c.args.self.now.meter c.status.new.self.meter c.status.ensures.port
