use Rattle.std.proofs.Common.{◌≡◌, ◌≤◌, length, map, take}
use Rattle.std.specs.Prelude.{vec_capacity}
use Rattle.space_directory.specs.SpaceView.{SpaceView}
use Rattle.superdirectory.proofs.solo.firsts_of.Given as goal

-- the first pages of the spaces so far
abbrev pub invariant-loop-space : goal.invariant-loop-space
invariant-loop-space g l = record {
  room : length l.spaces ≤ vec_capacity l.firsts;
  firsts : l.firsts.items ≡ map (λ (v : SpaceView). v.first) (take l.space-index l.spaces);
}
