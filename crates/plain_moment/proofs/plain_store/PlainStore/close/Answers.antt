use Rattle.std.proofs.Common.{refl, map, ap, ◌∙◌}
use Rattle.plain_moment.specs.Holders.{ended_by}
use Rattle.plain_moment.specs.Stored.{let_go}
use Rattle.plain_moment.proofs.Storing.{closed_ok, closed_ties, idle_ok, idle_ties}
use Rattle.plain_moment.proofs.plain_store.PlainStore.close.Goals as goal

pub returns-in-Ok-clause-step : goal.returns-in-Ok-clause-step
returns-in-Ok-clause-step c =
    closed_ok _ _ _ c.args.session c.args.committed c.self.view_is c.requires.tied c.requires.from_one
    c.requires.upto c.in-Ok.ensures.step refl
    (c.in_ok-holders.ensures ∙ ap (map (let_go c.args.session)) c.deref-3.ensures.value)
    (c.in_ok-moment.ensures ∙ (ap (λ h. ended_by c.args.session c.args.committed h c.deref-2.result.now) c.deref.ensures.value
    ∙ ap (λ m. ended_by c.args.session c.args.committed c.self.inside.holders.items m) c.deref-2.ensures.value))

pub returns-in-Ok-clause-tied : goal.returns-in-Ok-clause-tied
returns-in-Ok-clause-tied c =
    closed_ties _ _ _ c.args.session c.args.committed c.self.view_is c.requires.tied c.in-Ok.ensures.step
    (c.in_ok-holders.ensures ∙ ap (map (let_go c.args.session)) c.deref-3.ensures.value)

pub returns-in-Idle-clause-step : goal.returns-in-Idle-clause-step
returns-in-Idle-clause-step c =
    idle_ok _ _ _ c.args.session c.args.committed c.self.view_is c.requires.tied c.requires.from_one c.requires.upto
    c.in-Idle.ensures.step refl refl refl

pub returns-in-Idle-clause-tied : goal.returns-in-Idle-clause-tied
returns-in-Idle-clause-tied c =
    idle_ties _ _ _ c.args.session c.args.committed c.self.view_is c.requires.tied c.in-Idle.ensures.step refl refl refl
