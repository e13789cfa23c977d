use Rattle.std.proofs.Common.{drop}
use Rattle.std.specs.List.{AllByRecursion}
use Rattle.moment_model.specs.Version.{segment_run}
use Rattle.object_state.specs.Changes.{IsHeldRun}
use Rattle.object_state.proofs.change_runs.holds_segments.Given as goal

-- where the segments behind are held, all are
abbrev pub invariant-loop-pair : goal.invariant-loop-pair
invariant-loop-pair g l =
    AllByRecursion (λ p. IsHeldRun l.held (segment_run l.geometry.page p)) (drop l.pair-index l.segments) →
    AllByRecursion (λ p. IsHeldRun l.held (segment_run l.geometry.page p)) l.segments
