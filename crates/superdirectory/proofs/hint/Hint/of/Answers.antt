-- The greatest order of a block, and one more.
use Rattle.std.proofs.Common.{sym, ◌∙◌}
use Rattle.superdirectory.proofs.Exact.{hint_some, hint_none}
use Rattle.superdirectory.proofs.hint.Hint.of.Goals as goal

pub returns-in-Some : goal.returns-in-Some
returns-in-Some c = hint_some c.args.free.now c.in-Some.order (sym c.in-Some.is ∙ c.largest.ensures.computed)

pub returns-in-None : goal.returns-in-None
returns-in-None c = hint_none c.args.free.now (sym c.in-None.is ∙ c.largest.ensures.computed)
