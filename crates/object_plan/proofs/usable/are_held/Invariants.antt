use Rattle.std.proofs.Common.{drop}
use Rattle.std.specs.List.{AllByRecursion}
use Rattle.tree_model.specs.Range.{pairs_of}
use Rattle.object_plan.specs.Planned.{IsHeldEntry}
use Rattle.object_plan.proofs.usable.are_held.Given as goal

abbrev pub invariant-loop-segment : goal.invariant-loop-segment
invariant-loop-segment g l = AllByRecursion (IsHeldEntry l.geometry l.held) (drop l.segment-index (pairs_of l.window)) →
    AllByRecursion (IsHeldEntry l.geometry l.held) (pairs_of l.window)
