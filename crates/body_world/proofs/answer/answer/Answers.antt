-- A length and a read are as the transaction says them.
use Rattle.body_world.proofs.Worked.{worked-length, worked-read}
use Rattle.body_world.proofs.answer.answer.Goals as goal

pub returns-in-Length : goal.returns-in-Length
returns-in-Length g c =
    worked-length g.P.S.Span.tells g.B.Body.suits g.B.Body.laid g.B.Body.may_refuse g.B.Body.may_write g.B.Body.may_read _
    g.B.Body.form g.B.Body.told c.args.command c.in-Length.object _ c.reply_of_length.result c.args.o c.args.txn.now c.length.new.self _
    c.in-Length.is c.reply_of_length.ensures c.requires.held c.length.ensures.reply c.length.ensures.right c.length.ensures.tied
    c.length.ensures.same

pub returns-in-Read : goal.returns-in-Read
returns-in-Read g c =
    worked-read g.P.S.Span.tells g.B.Body.suits g.B.Body.laid g.B.Body.may_refuse g.B.Body.may_write g.B.Body.may_read _
    g.B.Body.form g.B.Body.told c.args.command c.in-Read.object c.in-Read.at c.in-Read.len _ c.answer_to_read.result c.args.o
    c.args.txn.now c.read.new.self _ _ _ c.in-Read.is c.answer_to_read.ensures c.read.ensures.read c.read.ensures.right c.read.ensures.tied
