use Rattle.std.proofs.Common.{◌≡◌, take}
use Rattle.tree_splice.specs.Way.{made_count}
use Rattle.tree_splice.proofs.nodes.count_made.Given as goal

abbrev pub invariant-loop-level : goal.invariant-loop-level
invariant-loop-level l = l.count ≡ made_count (take l.level-index l.levels)
