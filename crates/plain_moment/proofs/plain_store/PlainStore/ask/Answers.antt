use Rattle.std.proofs.Common.{rules}
use Rattle.plain_moment.proofs.Storing.{unedited_served}
use Rattle.plain_moment.proofs.plain_store.PlainStore.ask.Goals as goal

pub returns-in-None-clause-step : goal.returns-in-None-clause-step
returns-in-None-clause-step c =
    unedited_served _ _ c.args.session c.in-Some.object c.args.command c.serve.result c.requires.tied c.requires.from_one c.requires.upto
    (search rules) (search rules) c.serve.ensures.served
