use Rattle.std.proofs.Common.{sym, ◌∙◌}
use Rattle.plain_moment.proofs.Storing.{edited_other}
use Rattle.plain_moment.proofs.plain_store.PlainStore.refuse.Goals as goal

pub returns-clause-step : goal.returns-clause-step
returns-clause-step c =
    edited_other _ _ c.args.session c.args.command c.in_ok-reply.reply c.requires.tied c.requires.from_one c.requires.upto
    (sym c.is_ok_reply.ensures ∙ c.if-is_ok_reply.false) c.in_ok-reply.ensures.served
