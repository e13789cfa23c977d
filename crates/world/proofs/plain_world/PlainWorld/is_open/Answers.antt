-- the place that was read is the session's
use Rattle.std.proofs.Common.{ap, ◌∙◌, sym}
use Rattle.world.specs.Session.{Session}
use Rattle.world.proofs.Readings.{txn-read, is_active-read}
use Rattle.world.proofs.plain_world.PlainWorld.is_open.Goals as goal

pub returns-clause-active : goal.returns-clause-active
returns-clause-active c =
    c.is_open.ensures
    ∙ ap (λ (t : Session). t.is_open) (txn-read c.self.inside.objects c.self.inside.sessions.items c.args.session
    c.index.result.now c.requires.from_one c.requires.upto c.self.invariant c.index.ensures)
    ∙ sym (is_active-read c.self.inside.objects c.self.inside.sessions.items c.args.self.now c.args.session
    c.self.view_is c.requires.from_one)
