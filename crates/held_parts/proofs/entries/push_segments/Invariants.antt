use Rattle.std.proofs.Common.{◌≡◌, ◌++◌, drop}
use Rattle.layout_model.specs.Layout.{segments_on}
use Rattle.held_parts.proofs.entries.push_segments.Given as goal

-- with the segments on the runs that are left they are all
abbrev pub invariant-loop-run : goal.invariant-loop-run
invariant-loop-run l = l.entries.items ++ segments_on l.page l.left (drop l.run-index l.runs)
    ≡ l.fn.entries.items ++ segments_on l.page l.bytes l.runs
