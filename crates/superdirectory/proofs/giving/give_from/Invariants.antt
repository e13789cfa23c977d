use Rattle.std.proofs.Common.{◌≡◌, ◌≤◌, List, ◌++◌, length, map, reverse, drop}
use Rattle.std.specs.Prelude.{vec_len, vec_capacity}
use Rattle.space_directory.specs.SpaceView.{SpaceView}
use Rattle.superdirectory.specs.Trace.{Part, AreAt, AreEnters}
use Rattle.superdirectory.specs.Rest.{count}
use Rattle.superdirectory.specs.Grants.{AreTold, KeepsFrame, AreRunsIn, IsGivenAll}
use Rattle.superdirectory.proofs.giving.give_from.Given as goal

-- the segments that were popped are given
abbrev pub invariant-loop-segments : goal.invariant-loop-segments
invariant-loop-segments g l = record {
  rest : KeepsFrame (g.L.Hints.rest l.fn.latches) (g.L.Hints.rest l.latches);
  trace : Part AreEnters (g.L.Hints.trace l.fn.latches) (g.L.Hints.trace l.latches);
  within : l.from ≤ length l.segments.items;
  room : vec_capacity l.segments ≡ vec_capacity l.fn.segments;
  runs : AreRunsIn (λ g'. g'.space) (λ g'. g.S.Span.start g'.span)
      (λ g'. g.S.Span.contents g'.span) g.S.Span.tells (g.L.Hints.rest l.fn.latches).frame
      (drop l.from l.segments.items);
  done : (done : List _) × (l.fn.segments.items ≡ l.segments.items ++ done)
      × ((views : List SpaceView) → AreTold (g.L.Hints.rest l.fn.latches) views →
      length views ≡ count (g.L.Hints.rest l.fn.latches) →
      ((after : List SpaceView) × AreTold (g.L.Hints.rest l.latches) after × (length after ≡ length views)
      × IsGivenAll (λ g'. g'.space) (λ g'. g.S.Span.start g'.span)
      (λ g'. g.S.Span.contents g'.span) views done after))
      × Part (AreAt (reverse (map (λ g'. g'.space) done))) (g.L.Hints.trace l.fn.latches)
      (g.L.Hints.trace l.latches);
}

abbrev pub decreases-loop-segments : goal.decreases-loop-segments
decreases-loop-segments g l = vec_len l.segments
