use Rattle.std.proofs.Common.{◌≡◌, ◌-◌, List, length, true, None}
use Rattle.std.specs.List.{range_with_len}
use Rattle.layout_model.specs.Grants.{spot_in}
use Rattle.space_directory.specs.SpaceView.{SpaceView}
use Rattle.superdirectory.specs.Trace.{Part, IsSearched, IsInTurn}
use Rattle.superdirectory.specs.Rest.{count}
use Rattle.superdirectory.specs.Grants.{AreTold, free_sets, KeepsFrame}
use Rattle.superdirectory.proofs.granting.grant_between.Given as goal

-- the spaces so far had no place
abbrev pub invariant-loop-s : goal.invariant-loop-s
invariant-loop-s g l = record {
  rest : KeepsFrame (g.L.Hints.rest l.fn.latches) (g.L.Hints.rest l.latches);
  trace : Part (IsSearched l.order l.from l.s true) (g.L.Hints.trace l.fn.latches) (g.L.Hints.trace l.latches);
  turn : Part (IsInTurn (range_with_len l.from (l.s - l.from)) true) (g.L.Hints.trace l.fn.latches) (g.L.Hints.trace l.latches);
  told : (views : List SpaceView) → AreTold (g.L.Hints.rest l.fn.latches) views →
      length views ≡ count (g.L.Hints.rest l.fn.latches) → AreTold (g.L.Hints.rest l.latches) views;
  none : (views : List SpaceView) → AreTold (g.L.Hints.rest l.fn.latches) views →
      length views ≡ count (g.L.Hints.rest l.fn.latches) →
      spot_in (free_sets views) l.n (range_with_len l.from (l.s - l.from)) ≡ None;
}
