use Rattle.std.proofs.Common.{◌≡◌, ◌++◌, drop}
use Rattle.tree_model.specs.Range.{pairs_of}
use Rattle.object_plan.proofs.sides.pairs_in.Given as goal

abbrev pub invariant-loop-segment : goal.invariant-loop-segment
invariant-loop-segment l = l.pairs.items ++ drop l.segment-index (pairs_of l.window) ≡ pairs_of l.window
