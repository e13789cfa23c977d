use Rattle.std.proofs.Common.{◌≤◌, vec_len}
use Rattle.image_check.specs.Rooms.{IsPrepared}
use Rattle.image_check.proofs.path.Path.prepare.Given as goal

abbrev pub invariant-loop-level : goal.invariant-loop-level
invariant-loop-level l = record {
  room : IsPrepared l.geometry.page 0 l.self;
  levels : l.level ≤ vec_len l.self.nodes;
}
