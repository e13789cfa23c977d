-- A refusal, want of memory and the object's own answer are each a step of the machine.
use Rattle.std.proofs.Common.{◌≡◌, ◌-◌, ap, sym, ◌∙◌, subst}
use Rattle.eos_ops.specs.declared.reply.Reply.TheVariants as reply
use Rattle.machine.specs.Replies.{IsStep}
use Rattle.world.specs.Served.{IsAnswer}
use Rattle.world.specs.Session.{Session}
use Rattle.world.specs.Ties.{txn_at, viewed}
use Rattle.world.proofs.Readings.{txn-read, is_active-read, below, set-as_was, step-idle_object, tied-answer, step-answer}
use Rattle.world.proofs.plain_world.PlainWorld.ask.Goals as goal

pub returns-then-not-is_open-clause-step : goal.returns-then-not-is_open-clause-step
returns-then-not-is_open-clause-step c =
    let read : c.index_mut-txn.result.now ≡ txn_at c.self.inside.sessions.items (c.args.session - 1) =
    txn-read c.self.inside.objects c.self.inside.sessions.items c.args.session c.index_mut-txn.result.now
    c.requires.from_one c.requires.upto c.self.invariant c.index_mut-txn.ensures.value in
    let idle = is_active-read c.self.inside.objects c.self.inside.sessions.items c.args.self.now c.args.session
    c.self.view_is c.requires.from_one
    ∙ ap (λ (t : Session). t.is_open) (sym read) ∙ sym c.if-not-is_open.ensures in
    let state = ap (viewed c.self.inside.objects)
    (set-as_was c.self.inside.sessions.items (c.args.session - 1) c.index_mut-txn.result.now read)
    ∙ c.self.view_is in
    subst (λ m. IsStep c.args.self.now c.args.session c.args.command reply.Idle m) (sym state)
    (step-idle_object c.args.self.now c.args.session c.args.command c.in-Some.object c.requires.short (sym c.in-Some.ensures) idle)

-- what the call did, of the session
answered : (c : goal.After-self-2-1) → IsAnswer c.args.command c.in-Some.object c.serve.result c.self.inside.objects
    (txn_at c.self.inside.sessions.items (c.args.session - 1)) c.serve.new.objects c.serve.new.txn
answered c =
    subst (λ t. IsAnswer c.args.command c.in-Some.object c.serve.result c.self.inside.objects t c.serve.new.objects c.serve.new.txn)
    (txn-read c.self.inside.objects c.self.inside.sessions.items c.args.session c.index_mut-txn.result.now
    c.requires.from_one c.requires.upto c.self.invariant c.index_mut-txn.ensures.value)
    c.serve.ensures

pub invariant_of-self-2 : goal.invariant_of-self-2
invariant_of-self-2 c =
    tied-answer c.args.command c.in-Some.object c.serve.result c.self.inside.objects c.self.inside.sessions.items
    (c.args.session - 1) c.serve.new.objects c.serve.new.txn
    (below c.args.session c.requires.from_one c.requires.upto) c.self.invariant (answered c)

pub returns-clause-step : goal.returns-clause-step
returns-clause-step c =
    let active = is_active-read c.self.inside.objects c.self.inside.sessions.items c.args.self.now c.args.session
    c.self.view_is c.requires.from_one
    ∙ ap (λ (t : Session). t.is_open) (sym (txn-read c.self.inside.objects c.self.inside.sessions.items
    c.args.session c.index_mut-txn.result.now c.requires.from_one c.requires.upto c.self.invariant
    c.index_mut-txn.ensures.value))
    ∙ sym c.if-not-is_open.ensures in
    step-answer c.args.command c.in-Some.object c.serve.result c.self.inside.objects c.self.inside.sessions.items
    c.args.self.now c.args.session c.serve.new.objects c.serve.new.txn
    c.self.view_is c.requires.from_one c.requires.upto c.requires.short (sym c.in-Some.ensures) active c.self.invariant (answered c)
