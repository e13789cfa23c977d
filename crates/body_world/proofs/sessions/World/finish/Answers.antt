-- With nothing open all objects are home.
use Rattle.std.proofs.Common.{◌≡◌, ◌∙◌, Some, ap, refl, sym, subst, arith}
use Rattle.eos_ops.specs.declared.limits.TheConstants.{SESSIONS}
use Rattle.superdirectory.specs.Solo.{rest_of}
use Rattle.body_world.specs.Ending.{HaveStopped}
use Rattle.body_world.specs.Session.{shown_by}
use Rattle.body_world.specs.Ties.{viewed}
use Rattle.body_world.proofs.Finishing.{home-stopped}
use Rattle.body_world.proofs.Last.{parts-last}
use Rattle.body_world.proofs.sessions.World.finish.Goals as goal

pub finish-requires : goal.finish-requires
finish-requires g c = c.world.invariant.work.ready.none

pub finish-requires-2 : goal.finish-requires-2
finish-requires-2 g c =
    home-stopped (shown_by g.B.Body.form g.B.Body.told) c.world.inside.objects c.world.inside.sessions.items
    c.stop_all.new.self.store.machine SESSIONS (ap (λ w. w.store.machine) c.world.view_is) (omega arith)
    c.world.invariant.work.shares c.stop_all.ensures.stopped.idle

pub returns-clause-parts : goal.returns-clause-parts
returns-clause-parts g c =
    let show = shown_by g.B.Body.form g.B.Body.told in
    let stopped : HaveStopped g.P.S.Span.tells SESSIONS c.args.self.store
    (viewed show c.world.inside.geometry c.world.inside.objects c.world.inside.sessions.items) =
    subst (λ w. HaveStopped g.P.S.Span.tells SESSIONS c.args.self.store w.store) (sym c.world.view_is)
    c.stop_all.ensures.stopped in
    parts-last g.P.S.Span.tells g.B.Body.good show c.world.inside.geometry c.args.self.store c.world.inside.objects
    c.finish-2.result.items c.world.inside.sessions.items (rest_of c.world.inside.spaces) c.finish.result.items
    (g.P.Port.meter c.world.inside.port).page c.finish-2.ensures (ap Some (sym c.finish.ensures)) c.world.invariant stopped

pub returns-clause-port : goal.returns-clause-port
returns-clause-port g c = ap (λ w. w.meter) c.world.view_is ∙ c.stop_all.ensures.port
