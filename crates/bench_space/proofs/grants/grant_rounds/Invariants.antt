use Rattle.std.proofs.Common.{◌≡◌, length}
use Rattle.space_directory.specs.SpaceView.{IsSpace}
use Rattle.bench_space.proofs.grants.grant_rounds.Given as goal

-- it stays a space of as many pages
abbrev pub invariant-loop-round : goal.invariant-loop-round
invariant-loop-round g l = record {
  count : length l.space.free ≡ length l.fn.space.free;
  sound : IsSpace l.space;
}
