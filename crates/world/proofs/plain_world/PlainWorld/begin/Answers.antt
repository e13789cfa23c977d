-- Each answer is a step of the machine, and a session that begins keeps the ties.
use Rattle.std.proofs.Common.{◌-◌, set, sym, subst}
use Rattle.eos_ops.specs.declared.command.Command.TheVariants.{Begin}
use Rattle.machine.specs.Replies.{IsStep}
use Rattle.world.specs.Ties.{txn_at, viewed}
use Rattle.world.proofs.Readings.{txn-read, below, Begins, tied-begun, step-begun}
use Rattle.world.proofs.plain_world.PlainWorld.begin.Goals as goal

-- what the call said, of the session
begins : (c : goal.After-begun) → Begins c.begin.result (txn_at c.self.inside.sessions.items (c.args.session - 1)) c.begin.new.self
begins c =
    subst (λ t. Begins c.begin.result t c.begin.new.self)
    (txn-read c.self.inside.objects c.self.inside.sessions.items c.args.session c.index_mut.result.now
    c.requires.from_one c.requires.upto c.self.invariant c.index_mut.ensures.value)
    (record { ok = c.begin.ensures.ok; active = c.begin.ensures.active; worn = c.begin.ensures.worn; err = c.begin.ensures.err })

pub invariant_of-self : goal.invariant_of-self
invariant_of-self c =
    tied-begun c.begin.result c.self.inside.objects c.self.inside.sessions.items (c.args.session - 1)
    c.begin.new.self (below c.args.session c.requires.from_one c.requires.upto) c.self.invariant (begins c)

pub returns-clause-step : goal.returns-clause-step
returns-clause-step c =
    subst (λ r. IsStep c.args.self.now c.args.session Begin r
    (viewed c.self.inside.objects (set c.self.inside.sessions.items (c.args.session - 1) c.begin.new.self)))
    (sym c.begun.ensures)
    (step-begun c.begin.result c.self.inside.objects c.self.inside.sessions.items c.args.self.now c.args.session
    c.begin.new.self c.self.view_is c.requires.from_one c.requires.upto c.self.invariant (begins c))
