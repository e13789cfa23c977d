use Rattle.std.proofs.Common.{◌≡◌, ◌++◌, drop}
use Rattle.edit_plan.specs.Cuts.{stretch_of}
use Rattle.edit_plan.proofs.stretch.stretch.Given as goal

abbrev pub invariant-loop-piece : goal.invariant-loop-piece
invariant-loop-piece l = l.cut ++ stretch_of l.page l.from l.to (drop l.piece-index l.pieces) ≡ stretch_of l.page l.fn.from l.fn.to l.pieces
