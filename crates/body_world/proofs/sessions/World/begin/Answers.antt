-- A begin changes its session alone, and is a step of the machine.
use Rattle.std.proofs.Common.{◌-◌, set, ap, sym, subst}
use Rattle.eos_ops.specs.declared.command.Command.TheVariants.{Begin}
use Rattle.store_model.specs.Store.{IsOwedStep, IsToldStep}
use Rattle.world.proofs.Readings.{below}
use Rattle.body_world.specs.Session.{shown_by}
use Rattle.body_world.specs.Ties.{txn_at, machine_seen, viewed}
use Rattle.body_world.proofs.Readings.{txn-read, Begins, world-begun, owed-begun, told-begun}
use Rattle.body_world.proofs.sessions.World.begin.Goals as goal

-- what the call said, of the session
begins : (g : _) (c : goal.After-begun g) →
    Begins c.begin.result (txn_at c.self.inside.sessions.items (c.args.session - 1)) c.begin.new.self
begins g c =
    subst (λ t. Begins c.begin.result t c.begin.new.self)
    (txn-read c.self.inside.objects c.self.inside.sessions.items c.args.session c.index_mut.result.now
    c.requires.from_one c.requires.upto c.self.invariant.work.shares c.index_mut.ensures.value)
    (record { ok = c.begin.ensures.ok; active = c.begin.ensures.active; worn = c.begin.ensures.worn; err = c.begin.ensures.err })

pub invariant_of-self : goal.invariant_of-self
invariant_of-self g c =
    world-begun c.begin.result _ _ _ _ c.self.inside.objects c.self.inside.sessions.items _ _ (c.args.session - 1)
    c.begin.new.self (below c.args.session c.requires.from_one c.requires.upto) c.self.invariant (begins g c)

pub returns-clause-owed : goal.returns-clause-owed
returns-clause-owed g c =
    subst (λ r. IsOwedStep c.args.self.now.store.machine c.args.session Begin r
    (machine_seen (shown_by g.B.Body.form g.B.Body.told) c.self.inside.objects
    (set c.self.inside.sessions.items (c.args.session - 1) c.begin.new.self)))
    (sym c.begun.ensures)
    (owed-begun c.begin.result _ c.self.inside.objects c.self.inside.sessions.items c.args.self.now.store.machine c.args.session
    c.begin.new.self (ap (λ w. w.store.machine) c.self.view_is) c.requires.from_one c.requires.upto c.self.invariant.work.shares
    (begins g c))

pub returns-clause-told : goal.returns-clause-told
returns-clause-told g c tells lengths =
    subst (λ r. IsToldStep g.B.Body.laid c.args.self.now.store c.args.session Begin r
    (viewed (shown_by g.B.Body.form g.B.Body.told) c.self.inside.geometry c.self.inside.objects
    (set c.self.inside.sessions.items (c.args.session - 1) c.begin.new.self)))
    (sym c.begun.ensures)
    (told-begun c.begin.result _ _ _ c.self.inside.objects c.self.inside.sessions.items c.args.self.now.store c.args.session
    c.begin.new.self (ap (λ w. w.store) c.self.view_is) c.requires.from_one c.requires.upto c.self.invariant.work.shares
    (begins g c))
