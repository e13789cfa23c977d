-- The place that was read is the session's.
use Rattle.std.proofs.Common.{◌≡◌, length, ap, ◌∙◌, sym, subst}
use Rattle.std.proofs.lemmas.List.{length-map}
use Rattle.eos_ops.specs.declared.limits.TheConstants.{SESSIONS}
use Rattle.world.proofs.Readings.{below}
use Rattle.body_world.specs.Ties.{seat_of}
use Rattle.body_world.specs.Session.{shown_by}
use Rattle.body_world.proofs.Finishing.{holds-nothing}
use Rattle.body_world.proofs.Readings.{txn-read, is_active-read}
use Rattle.body_world.proofs.sessions.World.is_open.Goals as goal

pub returns-clause-active : goal.returns-clause-active
returns-clause-active g c =
    c.is_open.ensures
    ∙ ap (λ t. t.is_open) (txn-read c.self.inside.objects c.self.inside.sessions.items c.args.session
    c.index.result.now c.requires.from_one c.requires.upto c.self.invariant.work.shares c.index.ensures)
    ∙ sym (is_active-read _ c.self.inside.objects c.self.inside.sessions.items c.args.self.now.store.machine c.args.session
    (ap (λ w. w.store.machine) c.self.view_is) c.requires.from_one)

pub returns-clause-sessions : goal.returns-clause-sessions
returns-clause-sessions g c =
    subst (λ w. length w.store.machine.seats ≡ SESSIONS) c.self.view_is
    (length-map c.self.inside.sessions.items seat_of ∙ c.self.invariant.work.shares.sessions)

pub returns-clause-idle : goal.returns-clause-idle
returns-clause-idle g c idle o =
    let within = below c.args.session c.requires.from_one c.requires.upto in
    let tied = c.self.invariant.work.shares in
    let active = c.is_open.ensures
    ∙ ap (λ t. t.is_open) (txn-read c.self.inside.objects c.self.inside.sessions.items c.args.session
    c.index.result.now c.requires.from_one c.requires.upto tied c.index.ensures) in
    holds-nothing (shown_by g.B.Body.form g.B.Body.told) c.self.inside.objects c.self.inside.sessions.items c.args.self.now.store.machine
    c.args.session o (ap (λ w. w.store.machine) c.self.view_is) c.requires.from_one c.requires.upto tied (sym active ∙ idle)
