-- An end is the machine's.
use Rattle.std.proofs.Common.{◌-◌, ap, sym, ◌∙◌, subst}
use Rattle.world.specs.Served.{IsEnded}
use Rattle.world.specs.Session.{Session}
use Rattle.world.specs.Ties.{txn_at}
use Rattle.world.proofs.Readings.{txn-read, is_active-read, below, state-ended}
use Rattle.world.proofs.Tied.{tied-set}
use Rattle.world.proofs.plain_world.PlainWorld.end.Goals as goal

pub end-requires-clause-open : goal.end-requires-clause-open
end-requires-clause-open c =
    ap (λ (t : Session). t.is_open) (txn-read c.self.inside.objects c.self.inside.sessions.items c.args.session
    c.index_mut-txn.result.now c.requires.from_one c.requires.upto c.self.invariant
    c.index_mut-txn.ensures.value)
    ∙ sym (is_active-read c.self.inside.objects c.self.inside.sessions.items c.args.self.now c.args.session
    c.self.view_is c.requires.from_one) ∙ c.requires.active

-- what the call did, of the session
ended : (c : goal.After-self-1) → IsEnded c.args.committed c.self.inside.objects
    (txn_at c.self.inside.sessions.items (c.args.session - 1)) c.end.new.objects c.end.new.txn
ended c =
    subst (λ t. IsEnded c.args.committed c.self.inside.objects t c.end.new.objects c.end.new.txn)
    (txn-read c.self.inside.objects c.self.inside.sessions.items c.args.session c.index_mut-txn.result.now
    c.requires.from_one c.requires.upto c.self.invariant c.index_mut-txn.ensures.value)
    c.end.ensures

pub invariant_of-self : goal.invariant_of-self
invariant_of-self c =
    tied-set c.self.inside.objects c.self.inside.sessions.items (c.args.session - 1) c.end.new.objects c.end.new.txn
    (below c.args.session c.requires.from_one c.requires.upto) c.self.invariant (ended c).kept

pub returns-clause-state : goal.returns-clause-state
returns-clause-state c =
    state-ended c.self.inside.objects c.self.inside.sessions.items c.args.self.now c.args.session c.end.new.objects
    c.end.new.txn c.args.committed
    c.self.view_is c.requires.from_one c.requires.upto c.self.invariant (ended c)
