use Rattle.std.proofs.Common.{◌≡◌, ◌++◌, map, take}
use Rattle.tree_splice.specs.Splice.{extent_of}
use Rattle.object_state.proofs.change_runs.push_runs.Given as goal

-- the runs so far are appended
abbrev pub invariant-loop-run : goal.invariant-loop-run
invariant-loop-run l = l.into.items ≡ l.fn.into.items ++ map extent_of (take l.run-index l.runs)
