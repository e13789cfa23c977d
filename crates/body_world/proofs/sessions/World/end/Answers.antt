-- The session's objects are let go, in the machine, in the moment and in the spaces.
use Rattle.std.proofs.Common.{suc, ◌-◌, ap, sym, ◌∙◌, subst, None, refl}
use Rattle.history.specs.Event.{Closes}
use Rattle.machine.specs.Machine.{bare}
use Rattle.machine.specs.Next.{next}
use Rattle.superdirectory.specs.Solo.{rest_of}
use Rattle.body_txn.specs.Ending.{EndInTurn, IsEndStep}
use Rattle.world.proofs.Readings.{below, number}
use Rattle.body_world.specs.Served.{IsEnded, IsOfStore, works_of}
use Rattle.body_world.specs.Session.{shown_by, stamp_of_object, IsSoundSession}
use Rattle.body_world.proofs.Endings.{machine-ended_bare}
use Rattle.body_world.proofs.EndedWorlds.{world-ended, told-ended, store-read}
use Rattle.body_world.proofs.Readings.{txn-read, is_active-read}
use Rattle.body_world.proofs.sessions.World.end.Goals as goal

pub end-requires-clause-open : goal.end-requires-clause-open
end-requires-clause-open g c =
    ap (λ t. t.is_open) (txn-read c.self.inside.objects c.self.inside.sessions.items c.args.session
    c.index_mut-txn.result.now c.requires.from_one c.requires.upto c.self.invariant.work.shares c.index_mut-txn.ensures.value)
    ∙ sym (is_active-read _ c.self.inside.objects c.self.inside.sessions.items c.args.self.now.store.machine c.args.session
    (ap (λ w. w.store.machine) c.self.view_is) c.requires.from_one) ∙ c.requires.active

pub end-requires-clause-sound : goal.end-requires-clause-sound
end-requires-clause-sound g c =
    subst (IsSoundSession c.self.inside.objects)
    (sym (txn-read c.self.inside.objects c.self.inside.sessions.items c.args.session
    c.index_mut-txn.result.now c.requires.from_one c.requires.upto c.self.invariant.work.shares c.index_mut-txn.ensures.value))
    (c.self.invariant.work.shares.sound (c.args.session - 1) (below c.args.session c.requires.from_one c.requires.upto))

pub end-requires-clause-store : goal.end-requires-clause-store
end-requires-clause-store g c = (
  c.self.inside.geometry,
  g.P.Port.meter c.self.inside.port,
  subst (λ t. IsOfStore (shown_by g.B.Body.form g.B.Body.told) c.self.inside.geometry c.self.inside.objects t
      (works_of c.self.inside.spaces (g.P.Port.meter c.self.inside.port)))
      (sym (txn-read c.self.inside.objects c.self.inside.sessions.items c.args.session
      c.index_mut-txn.result.now c.requires.from_one c.requires.upto c.self.invariant.work.shares c.index_mut-txn.ensures.value))
      (store-read (shown_by g.B.Body.form g.B.Body.told) c.self.inside.geometry c.self.inside.objects c.self.inside.sessions.items
      (c.args.session - 1) (works_of c.self.inside.spaces (g.P.Port.meter c.self.inside.port))
      (below c.args.session c.requires.from_one c.requires.upto) c.self.invariant.work),
)

pub invariant_of-self : goal.invariant_of-self
invariant_of-self g c =
    let reads = txn-read c.self.inside.objects c.self.inside.sessions.items c.args.session
    c.index_mut-txn.result.now c.requires.from_one c.requires.upto c.self.invariant.work.shares c.index_mut-txn.ensures.value in
    world-ended g.P.S.Span.tells g.B.Body.suits g.B.Body.good (shown_by g.B.Body.form g.B.Body.told) stamp_of_object c.args.committed
    c.self.inside.geometry c.self.inside.objects c.self.inside.sessions.items (c.args.session - 1) c.end.new.objects c.end.new.txn
    (record { rest = rest_of c.self.inside.spaces; trace = None }) (record { rest = rest_of c.end.new.spaces; trace = None })
    (g.P.Port.meter c.self.inside.port).page
    (below c.args.session c.requires.from_one c.requires.upto) c.self.invariant
    (subst (λ t. IsEnded g.P.S.Span.tells (shown_by g.B.Body.form g.B.Body.told) stamp_of_object c.args.committed c.self.inside.objects t
    c.end.new.objects c.end.new.txn) reads c.end.ensures.ended)
    (subst (λ t. EndInTurn (λ x. IsEndStep g.P.S.Span.tells g.B.Body.suits c.args.committed (g.B.Body.form x.body) (g.B.Body.told x.body))
    t.held (record { rest = rest_of c.self.inside.spaces; trace = None }) (record { rest = rest_of c.end.new.spaces; trace = None }))
    reads c.end.ensures.turns)

pub returns-clause-bare : goal.returns-clause-bare
returns-clause-bare g c =
    let reads = txn-read c.self.inside.objects c.self.inside.sessions.items c.args.session
    c.index_mut-txn.result.now c.requires.from_one c.requires.upto c.self.invariant.work.shares c.index_mut-txn.ensures.value in
    machine-ended_bare g.P.S.Span.tells (shown_by g.B.Body.form g.B.Body.told) stamp_of_object c.args.committed
    c.self.inside.objects c.self.inside.sessions.items (c.args.session - 1) c.end.new.objects c.end.new.txn
    (λ x. refl) (below c.args.session c.requires.from_one c.requires.upto) c.self.invariant.work.shares
    (subst (λ t. IsEnded g.P.S.Span.tells (shown_by g.B.Body.form g.B.Body.told) stamp_of_object c.args.committed c.self.inside.objects t
    c.end.new.objects c.end.new.txn) reads c.end.ensures.ended)
    ∙ ap (λ w. bare (next w.store.machine (suc (c.args.session - 1)) (Closes c.args.committed))) c.self.view_is
    ∙ ap (λ s. bare (next c.args.self.now.store.machine s (Closes c.args.committed))) (number c.args.session c.requires.from_one)

pub returns-clause-told : goal.returns-clause-told
returns-clause-told g c tell =
    let reads = txn-read c.self.inside.objects c.self.inside.sessions.items c.args.session
    c.index_mut-txn.result.now c.requires.from_one c.requires.upto c.self.invariant.work.shares c.index_mut-txn.ensures.value in
    told-ended g.P.S.Span.tells (shown_by g.B.Body.form g.B.Body.told) stamp_of_object c.args.committed c.self.inside.geometry
    c.self.inside.objects c.self.inside.sessions.items c.args.self.now.store c.args.session c.end.new.objects c.end.new.txn
    tell (λ x. refl) (ap (λ w. w.store) c.self.view_is) c.requires.from_one c.requires.upto c.self.invariant.work.shares
    (subst (λ t. IsEnded g.P.S.Span.tells (shown_by g.B.Body.form g.B.Body.told) stamp_of_object c.args.committed c.self.inside.objects t
    c.end.new.objects c.end.new.txn) reads c.end.ensures.ended)
