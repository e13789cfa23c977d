use Rattle.std.proofs.Common.{drop}
use Rattle.std.specs.List.{AllByRecursion}
use Rattle.object_state.specs.Reads.{IsHeldSegment}
use Rattle.object_state.proofs.reading.are_held.Given as goal

abbrev pub invariant-loop-segment : goal.invariant-loop-segment
invariant-loop-segment g l =
    AllByRecursion (λ s. IsHeldSegment l.geometry l.held s.pair) (drop l.segment-index l.segments) →
    AllByRecursion (λ s. IsHeldSegment l.geometry l.held s.pair) l.segments
