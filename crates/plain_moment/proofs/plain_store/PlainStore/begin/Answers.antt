use Rattle.std.proofs.Common.{refl}
use Rattle.plain_moment.proofs.Storing.{begun_ok, begun_tied}
use Rattle.plain_moment.proofs.plain_store.PlainStore.begin.Goals as goal

pub returns-clause-step : goal.returns-clause-step
returns-clause-step c =
    begun_ok _ _ _ c.args.session _ c.bare.result c.self.view_is c.requires.tied c.requires.from_one c.requires.upto
    c.step-reply.ensures.step refl refl refl c.bare.ensures.same c.bare.ensures.bare

pub returns-clause-tied : goal.returns-clause-tied
returns-clause-tied c = begun_tied _ _ _ c.args.session _ c.bare.result c.self.view_is c.requires.tied c.step-reply.ensures.step refl
