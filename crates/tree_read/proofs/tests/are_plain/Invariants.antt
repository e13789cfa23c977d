use Rattle.std.proofs.Common.{◌≤◌}
use Rattle.tree_read.proofs.tests.are_plain.Given as goal

-- the entries are counted
abbrev pub invariant-loop-segment : goal.invariant-loop-segment
invariant-loop-segment l = l.at ≤ 36
