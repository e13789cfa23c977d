use Rattle.std.proofs.Common.{◌≡◌}
use Rattle.edit_plan.proofs.WindowLemmas.{IsFar}
use Rattle.edit_plan.proofs.spot.spot_of.Given as goal

abbrev pub invariant-loop-segment : goal.invariant-loop-segment
invariant-loop-segment l = record {
  index : l.ended ≡ l.segment-index;
  far : IsFar l.window l.fn.place l.ended l.inside;
}
