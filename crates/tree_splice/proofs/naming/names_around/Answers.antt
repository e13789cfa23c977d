-- A node that can't be named is one of the level.
use Rattle.std.proofs.Common.{rules}
use Rattle.tree_splice.proofs.UpLemmas.{counted-made, counted-back}
use Rattle.tree_splice.proofs.naming.names_around.Goals as goal

pub returns-in_err-push_back_names-clause-wide : goal.returns-in_err-push_back_names-clause-wide
returns-in_err-push_back_names-clause-wide c = λ bad counted.
    c.in_err-push_back_names.ensures.wide (search rules) (counted-made c.args.run.now c.args.level.now counted)

pub returns-in_err-push_back_names-2-clause-wide : goal.returns-in_err-push_back_names-2-clause-wide
returns-in_err-push_back_names-2-clause-wide c = λ bad counted.
    c.in_err-push_back_names-2.ensures.wide (search rules) (counted-back c.args.run.now c.args.level.now counted)
