-- What an edit leaves alone, where the object refuses it.
use Rattle.std.proofs.Common.{sym, subst}
use Rattle.eos_ops.specs.Edits.{edited}
use Rattle.shadow_txn.specs.Replies.{working_in}
use Rattle.world.specs.Session.{IsWorked}
use Rattle.world.proofs.Working.{worked-refused, on_ok-from, not-memory}
use Rattle.world.proofs.answer.edit_answer.Goals as goal

pub returns-in-Err-clause-ok : goal.returns-in-Err-clause-ok
returns-in-Err-clause-ok c = on_ok-from c.refused.result (λ reply is.
    subst (λ t. IsWorked (edited c.args.edit.now (working_in c.args.o c.args.txn.now.held)) c.args.o c.args.txn.now
    t) (sym c.in-Err.ensures.err)
    (worked-refused c.args.edit.now c.args.o c.in-Err.fail c.args.txn.now c.requires
    (c.in-Err.ensures.reply (λ memory. not-memory c.refused.result reply c.in-Err.fail is c.refused.ensures.memory cc))))
