-- The counts are those of the moment's pages, and the spaces are as they were.
use Rattle.std.proofs.Common.{◌*◌, ap, ◌∙◌, subst, refl}
use Rattle.eos_ops.specs.declared.command.Command.TheVariants.{Status}
use Rattle.eos_ops.specs.declared.reply.Reply.TheVariants as reply
use Rattle.moment_model.specs.Moment.{count_pages}
use Rattle.store_model.specs.Store.{IsOwedStep, IsToldStep}
use Rattle.body_world.specs.Session.{shown_by}
use Rattle.body_world.specs.Ties.{machine_seen, viewed}
use Rattle.body_world.proofs.Counting.{world-counted, owed-status, told-status}
use Rattle.body_world.proofs.Readings.{session-read}
use Rattle.body_world.proofs.sessions.World.status.Goals as goal

pub invariant_of-self : goal.invariant_of-self
invariant_of-self g c =
    world-counted _ _ _ _ c.self.inside.objects c.self.inside.sessions.items _ _ _ c.self.invariant c.count_all-counted.ensures.frame
    (λ views told many. (c.count_all-counted.ensures.told views told many).2)

pub returns-clause-owed : goal.returns-clause-owed
returns-clause-owed g c =
    subst (λ w. IsOwedStep w.store.machine c.args.session Status (reply.Status c.count_all-counted.result.free
    c.count_all-counted.result.locked c.count_all-counted.result.held)
    (machine_seen (shown_by g.B.Body.form g.B.Body.told) c.self.inside.objects c.self.inside.sessions.items)) c.self.view_is
    (owed-status _ c.args.session _ _ _ (session-read _ c.self.inside.objects c.self.inside.sessions.items _ c.args.session refl
    c.requires.from_one c.requires.upto c.self.invariant.work.shares))

pub returns-clause-told : goal.returns-clause-told
returns-clause-told g c tells lengths =
    let roles = c.self.invariant.roles tells in
    let counts = c.count_all-counted.ensures.told roles.views roles.told roles.home.number in
    let store = c.self.invariant.work.ready.store in
    subst (λ w. IsToldStep g.B.Body.laid w.store c.args.session Status (reply.Status c.count_all-counted.result.free
    c.count_all-counted.result.locked c.count_all-counted.result.held)
    (viewed (shown_by g.B.Body.form g.B.Body.told) c.self.inside.geometry c.self.inside.objects c.self.inside.sessions.items))
    c.self.view_is
    (told-status g.B.Body.laid
    (viewed (shown_by g.B.Body.form g.B.Body.told) c.self.inside.geometry c.self.inside.objects c.self.inside.sessions.items)
    c.args.session _ _ _ (session-read _ c.self.inside.objects c.self.inside.sessions.items _ c.args.session refl
    c.requires.from_one c.requires.upto c.self.invariant.work.shares)
    (record {
      free_pages = counts.0 ∙ ap count_pages roles.free;
      locked_pages = counts.1 ∙ ap count_pages roles.locked;
      all_pages = c.count_all-counted.ensures.all ∙ ap (λ k. k * c.self.inside.spaces.pages) store.number
          ∙ ap (λ k. c.self.inside.geometry.spaces * k) store.pages;
    }))
