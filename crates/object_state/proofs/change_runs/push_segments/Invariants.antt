use Rattle.std.proofs.Common.{◌≡◌, ◌++◌, map, take}
use Rattle.moment_model.specs.Version.{segment_run}
use Rattle.object_state.proofs.change_runs.push_segments.Given as goal

-- the runs of the segments so far are appended
abbrev pub invariant-loop-pair : goal.invariant-loop-pair
invariant-loop-pair l = l.into.items ≡ l.fn.into.items ++ map (segment_run l.geometry.page) (take l.pair-index l.segments)
