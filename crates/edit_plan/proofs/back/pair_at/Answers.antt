use Rattle.std.proofs.Common.{sym}
use Rattle.edit_plan.proofs.WindowLemmas.{pair-some}
use Rattle.edit_plan.proofs.back.pair_at.Goals as goal

pub returns-then-number-window : goal.returns-then-number-window
returns-then-number-window c = sym (pair-some c.args.window.now c.args.number c.if-number-window.true)
