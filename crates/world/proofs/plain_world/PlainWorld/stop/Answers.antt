-- An abort closes one session and keeps the committed objects.
use Rattle.std.proofs.Common.{◌≡◌, true, false, refl, sym, ◌∙◌, ap}
use Rattle.machine.specs.Machine.{is_active, database}
use Rattle.world.proofs.First.{active-closed, database-abort}
use Rattle.world.proofs.plain_world.PlainWorld.stop.Goals as goal

pub returns-then-not-is_open-clause-state : goal.returns-then-not-is_open-clause-state
returns-then-not-is_open-clause-state c =
    let idle : is_active c.args.self.now c.args.session ≡ false = sym c.is_open.ensures.active ∙ c.if-not-is_open.true in
    rw idle refl

pub returns-clause-state : goal.returns-clause-state
returns-clause-state c =
    let active : is_active c.args.self.now c.args.session ≡ true = sym c.is_open.ensures.active ∙ c.if-not-is_open.false in
    rw active c.end.ensures.state

pub returns-clause-closed : goal.returns-clause-closed
returns-clause-closed c = ap (λ m. is_active m c.args.session) c.end.ensures.state
    ∙ active-closed c.args.self.now c.args.session c.args.session false (λ other. absurd (other refl))

pub returns-clause-others : goal.returns-clause-others
returns-clause-others c t idle = ap (λ m. is_active m t) c.end.ensures.state
    ∙ active-closed c.args.self.now c.args.session t false (λ _. idle)

pub returns-clause-database : goal.returns-clause-database
returns-clause-database c = ap database c.end.ensures.state ∙ database-abort c.args.self.now c.args.session
