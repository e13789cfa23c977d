use Rattle.std.proofs.Common.{refl, sym, ◌∙◌}
use Rattle.plain_moment.proofs.Storing.{taken_ok, taken_not}
use Rattle.plain_moment.proofs.plain_store.PlainStore.take.Goals as goal

pub returns-then-is_look-clause-taking : goal.returns-then-is_look-clause-taking
returns-then-is_look-clause-taking c =
    taken_ok _ _ _ c.args.session c.args.object _ c.self.view_is c.step-reply.ensures.step (sym c.is_look.ensures
    ∙ c.if-is_look.true) refl c.hold.ensures refl

pub returns-clause-taking : goal.returns-clause-taking
returns-clause-taking c =
    taken_not _ _ _ c.args.session c.args.object _ _ c.self.view_is c.step-reply.ensures.step (sym c.is_look.ensures ∙ c.if-is_look.false)
    (sym c.is_memory.ensures ∙ c.if-is_memory.false) c.in_ok-bare.ensures.same refl refl refl
