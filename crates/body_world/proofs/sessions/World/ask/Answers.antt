-- A refusal and what an object serves are each a step of the store.
use Rattle.std.proofs.Common.{◌≡◌, ◌-◌, ◌%◌, set, refl, ap, sym, ◌∙◌, subst}
use Rattle.eos_ops.specs.declared.reply.Reply.TheVariants as reply
use Rattle.store_model.specs.Store.{IsOwedStep, IsToldStep}
use Rattle.superdirectory.specs.Rest.{count}
use Rattle.superdirectory.specs.Solo.{rest_of}
use Rattle.world.proofs.Readings.{step-idle_object, below}
use Rattle.body_world.specs.Pages.{MovesPages, UsesPort}
use Rattle.body_world.specs.Served.{IsAnswer, MakesCommand, IsOfStore, works_of}
use Rattle.body_world.specs.Session.{shown_by, IsSoundSession}
use Rattle.body_world.specs.Ties.{machine_seen, viewed}
use Rattle.body_world.proofs.Asking.{Asks, world-asked, owed-asked, told-asked, port-asked, pages-asked, port-still}
use Rattle.body_world.proofs.Costs.{moves-none}
use Rattle.body_world.proofs.EndedWorlds.{store-read}
use Rattle.body_world.proofs.Readings.{txn-read, is_active-read, session-read, set-as_was}
use Rattle.body_world.proofs.Stepping.{owed-step, told-still, unmoved}
use Rattle.body_world.proofs.sessions.World.ask.Goals as goal

pub serve-requires-clause-sound : goal.serve-requires-clause-sound
serve-requires-clause-sound g c =
    subst (IsSoundSession c.self.inside.objects)
    (sym (txn-read c.self.inside.objects c.self.inside.sessions.items c.args.session
    c.index_mut-txn.result.now c.requires.from_one c.requires.upto c.self.invariant.work.shares c.index_mut-txn.ensures.value))
    (c.self.invariant.work.shares.sound (c.args.session - 1) (below c.args.session c.requires.from_one c.requires.upto))

pub serve-requires-clause-store : goal.serve-requires-clause-store
serve-requires-clause-store g c = (
  c.self.inside.geometry,
  subst (λ t. IsOfStore (shown_by g.B.Body.form g.B.Body.told) c.self.inside.geometry c.self.inside.objects t
      (works_of c.self.inside.spaces (g.P.Port.meter c.self.inside.port)))
      (sym (txn-read c.self.inside.objects c.self.inside.sessions.items c.args.session
      c.index_mut-txn.result.now c.requires.from_one c.requires.upto c.self.invariant.work.shares c.index_mut-txn.ensures.value))
      (store-read (shown_by g.B.Body.form g.B.Body.told) c.self.inside.geometry c.self.inside.objects c.self.inside.sessions.items
      (c.args.session - 1) (works_of c.self.inside.spaces (g.P.Port.meter c.self.inside.port))
      (below c.args.session c.requires.from_one c.requires.upto) c.self.invariant.work),
)

-- what the call did, of the session
asks : (g : _) (c : goal.After-self-2-1 g) → Asks g.P.S.Span.tells g.B.Body.suits g.B.Body.laid g.B.Body.may_refuse g.B.Body.may_write
    g.B.Body.may_read g.B.Body.good (shown_by g.B.Body.form g.B.Body.told) c.self.inside.geometry c.self.inside.objects
    c.self.inside.sessions.items c.args.session c.args.command c.in-Some.object c.serve.result c.serve.new.objects c.serve.new.txn
    (works_of c.self.inside.spaces (g.P.Port.meter c.self.inside.port)) (works_of c.serve.new.spaces (g.P.Port.meter c.serve.new.port))
asks g c =
    let read = txn-read c.self.inside.objects c.self.inside.sessions.items c.args.session c.index_mut-txn.result.now
    c.requires.from_one c.requires.upto c.self.invariant.work.shares c.index_mut-txn.ensures.value in
    record {
      from_one = c.requires.from_one;
      upto = c.requires.upto;
      short = c.requires.short;
      on = sym c.in-Some.ensures;
      names = c.requires.threshold;
      active = ap (λ t. t.is_open) (sym read) ∙ sym c.if-not-is_open.ensures;
      world = c.self.invariant;
      answer = subst (λ t. IsAnswer g.P.S.Span.tells g.B.Body.suits (shown_by g.B.Body.form g.B.Body.told)
          (MakesCommand g.P.S.Span.tells g.B.Body.suits g.B.Body.laid g.B.Body.may_refuse g.B.Body.may_write g.B.Body.may_read
          ((t.session - 1) % count (rest_of c.self.inside.spaces)) c.args.command c.serve.result)
          c.args.command c.in-Some.object c.serve.result c.self.inside.objects t
          (works_of c.self.inside.spaces (g.P.Port.meter c.self.inside.port)) c.serve.new.objects c.serve.new.txn
          (works_of c.serve.new.spaces (g.P.Port.meter c.serve.new.port))) read c.serve.ensures;
    }

pub invariant_of-self-2 : goal.invariant_of-self-2
invariant_of-self-2 g c = world-asked _ _ _ _ _ _ _ _ _ _ _ _ _ _ _ _ _ _ _ (asks g c) g.met.B.Body.keeps_soundness

pub returns-clause-owed : goal.returns-clause-owed
returns-clause-owed g c =
    subst (λ w. IsOwedStep w.store.machine c.args.session c.args.command c.serve.result
    (machine_seen (shown_by g.B.Body.form g.B.Body.told) c.serve.new.objects
    (set c.self.inside.sessions.items (c.args.session - 1) c.serve.new.txn))) c.self.view_is
    (owed-asked _ _ _ _ _ _ _ _ _ _ _ _ _ _ _ _ _ _ _ (asks g c))

pub returns-clause-told : goal.returns-clause-told
returns-clause-told g c tells on_pages =
    subst (λ w. IsToldStep g.B.Body.laid w.store c.args.session c.args.command c.serve.result
    (viewed (shown_by g.B.Body.form g.B.Body.told) c.self.inside.geometry c.serve.new.objects
    (set c.self.inside.sessions.items (c.args.session - 1) c.serve.new.txn))) c.self.view_is
    (told-asked _ _ _ _ _ _ _ _ _ _ _ _ _ _ _ _ _ _ _ (asks g c) tells (g.met.B.Body.lengths on_pages) g.met.B.Body.refuses_taken)

pub returns-clause-port : goal.returns-clause-port
returns-clause-port g c =
    subst (λ w. UsesPort w.meter (g.P.Port.meter c.serve.new.port) (c.serve.result ≡ reply.Fault)) c.self.view_is
    (port-asked _ _ _ _ _ _ _ _ _ _ _ _ _ _ _ _ _ _ _ (asks g c))

pub returns-clause-pages : goal.returns-clause-pages
returns-clause-pages g c tells =
    subst (λ w. MovesPages g.B.Body.may_write g.B.Body.may_read w.store
    (viewed (shown_by g.B.Body.form g.B.Body.told) c.self.inside.geometry c.serve.new.objects
    (set c.self.inside.sessions.items (c.args.session - 1) c.serve.new.txn)) c.args.command w.meter (g.P.Port.meter c.serve.new.port))
    c.self.view_is (pages-asked _ _ _ _ _ _ _ _ _ _ _ _ _ _ _ _ _ _ _ (asks g c) tells)

pub returns-then-not-is_open-clause-owed : goal.returns-then-not-is_open-clause-owed
returns-then-not-is_open-clause-owed g c =
    let show = shown_by g.B.Body.form g.B.Body.told in
    let m = c.args.self.now.store.machine in
    let tied = c.self.invariant.work.shares in
    let view = ap (λ w. w.store.machine) c.self.view_is in
    let read = txn-read c.self.inside.objects c.self.inside.sessions.items c.args.session c.index_mut-txn.result.now
    c.requires.from_one c.requires.upto tied c.index_mut-txn.ensures.value in
    let idle = is_active-read show c.self.inside.objects c.self.inside.sessions.items m c.args.session view c.requires.from_one
    ∙ ap (λ t. t.is_open) (sym read) ∙ sym c.if-not-is_open.ensures in
    let state = ap (machine_seen show c.self.inside.objects)
    (set-as_was c.self.inside.sessions.items (c.args.session - 1) c.index_mut-txn.result.now read) ∙ view in
    subst (IsOwedStep m c.args.session c.args.command reply.Idle) (sym state)
    (owed-step m m c.args.session c.args.command reply.Idle
    (session-read show c.self.inside.objects c.self.inside.sessions.items m c.args.session view c.requires.from_one c.requires.upto tied)
    (step-idle_object m c.args.session c.args.command c.in-Some.object c.requires.short (sym c.in-Some.ensures) idle))

pub returns-then-not-is_open-clause-told : goal.returns-then-not-is_open-clause-told
returns-then-not-is_open-clause-told g c tells on_pages =
    let show = shown_by g.B.Body.form g.B.Body.told in
    let w = c.args.self.now.store in
    let tied = c.self.invariant.work.shares in
    let view = ap (λ v. v.store.machine) c.self.view_is in
    let read = txn-read c.self.inside.objects c.self.inside.sessions.items c.args.session c.index_mut-txn.result.now
    c.requires.from_one c.requires.upto tied c.index_mut-txn.ensures.value in
    let idle = is_active-read show c.self.inside.objects c.self.inside.sessions.items w.machine c.args.session view c.requires.from_one
    ∙ ap (λ t. t.is_open) (sym read) ∙ sym c.if-not-is_open.ensures in
    let state = ap (viewed show c.self.inside.geometry c.self.inside.objects)
    (set-as_was c.self.inside.sessions.items (c.args.session - 1) c.index_mut-txn.result.now read) ∙ ap (λ v. v.store) c.self.view_is in
    subst (IsToldStep g.B.Body.laid w c.args.session c.args.command reply.Idle) (sym state)
    (told-still g.B.Body.laid w.numbers w.moment w.machine w.machine c.args.session c.args.command reply.Idle
    (session-read show c.self.inside.objects c.self.inside.sessions.items w.machine c.args.session view c.requires.from_one
    c.requires.upto tied)
    (step-idle_object w.machine c.args.session c.args.command c.in-Some.object c.requires.short (sym c.in-Some.ensures) idle)
    (λ past. unmoved g.B.Body.laid w.numbers c.args.session past w.moment c.args.command reply.Idle refl) tt)

pub returns-then-not-is_open-clause-port : goal.returns-then-not-is_open-clause-port
returns-then-not-is_open-clause-port g c = port-still _ _ _ (ap (λ w. w.meter) c.self.view_is) (λ e. cc)

pub returns-then-not-is_open-clause-pages : goal.returns-then-not-is_open-clause-pages
returns-then-not-is_open-clause-pages g c tells =
    moves-none g.B.Body.may_write g.B.Body.may_read c.args.self.now.store
    (viewed (shown_by g.B.Body.form g.B.Body.told) c.self.inside.geometry c.self.inside.objects
    (set c.self.inside.sessions.items (c.args.session - 1) c.index_mut-txn.result.now))
    c.args.command c.args.self.now.meter (g.P.Port.meter c.self.inside.port) (ap (λ w. w.meter) c.self.view_is)
