use Rattle.std.proofs.Common.{◌≡◌, ◌-◌, length}
use Rattle.space_directory.specs.SpaceView.{locked_with}
use Rattle.space_directory.proofs.held.lock_held.Given as goal

-- the run is locked as far as the pages were passed
abbrev pub invariant-loop-page : goal.invariant-loop-page
invariant-loop-page l = record {
  locked : l.locks ≡ locked_with l.map l.fn.locks l.at (l.page - l.at);
  size : length l.locks ≡ length l.map;
}
