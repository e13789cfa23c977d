use Rattle.std.proofs.Common.{◌≡◌, ◌+◌, drop}
use Rattle.tree_model.specs.Range.{pairs_of}
use Rattle.tree_model.specs.Tree.{bytes_of}
use Rattle.object_plan.proofs.usable.bytes_of.Given as goal

abbrev pub invariant-loop-segment : goal.invariant-loop-segment
invariant-loop-segment l = l.bytes + bytes_of (drop l.segment-index (pairs_of l.window)) ≡ bytes_of (pairs_of l.window)
