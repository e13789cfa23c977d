use Rattle.std.proofs.Common.{◌≡◌, ◌+◌, ◌*◌, ◌≤◌, List, length, take}
use Rattle.moment_model.specs.Moment.{count_pages}
use Rattle.space_directory.specs.SpaceView.{SpaceView}
use Rattle.superdirectory.specs.Grants.{AreTold, KeepsFrame, free_sets}
use Rattle.superdirectory.specs.Rest.{count}
use Rattle.superdirectory.specs.Solo.{rest_of}
use Rattle.body_world.specs.Keeping.{locked_sets}
use Rattle.body_world.proofs.status.count_all.Given as goal

-- the spaces before s are counted, and all are as they were
abbrev pub invariant-loop-s : goal.invariant-loop-s
invariant-loop-s g l = record {
  frame : KeepsFrame (rest_of l.fn.spaces) (rest_of l.spaces);
  all : l.sum.free + l.sum.locked + l.sum.held ≡ l.s * l.fn.spaces.pages;
  few : l.sum.free + l.sum.locked + l.sum.held ≤ l.s * 16384;
  told : (views : List SpaceView) → AreTold (rest_of l.fn.spaces) views → length views ≡ count (rest_of l.fn.spaces) →
      (l.sum.free ≡ count_pages (take l.s (free_sets views))) × (l.sum.locked ≡ count_pages (take l.s (locked_sets views)))
      × AreTold (rest_of l.spaces) views;
}
