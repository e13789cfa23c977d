use Rattle.std.proofs.Common.{drop}
use Rattle.std.specs.List.{AllByRecursion}
use Rattle.tree_model.specs.Range.{pairs_of}
use Rattle.edit_plan.specs.Planned.{IsEntry}
use Rattle.edit_plan.proofs.window.are_entries.Given as goal

abbrev pub invariant-loop-segment : goal.invariant-loop-segment
invariant-loop-segment l =
    AllByRecursion (IsEntry l.geometry) (drop l.segment-index (pairs_of l.window)) → AllByRecursion (IsEntry l.geometry) (pairs_of l.window)
