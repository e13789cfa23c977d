use Rattle.std.proofs.Common.{◌≡◌, ◌+◌, ◌^◌, ◌<◌, drop}
use Rattle.tree_model.specs.Range.{pairs_of}
use Rattle.tree_model.specs.Tree.{bytes_of}
use Rattle.window_laws.specs.Searches.{end_of}
use Rattle.edit_plan.proofs.window.end_of.Given as goal

abbrev pub invariant-loop-segment : goal.invariant-loop-segment
invariant-loop-segment l = record {
  reaches : l.end + bytes_of (drop l.segment-index (pairs_of l.window)) ≡ end_of l.window;
  fits : l.end < 2 ^ 64;
}
