use Rattle.std.proofs.Common.{Bool, ℕ}
use Rattle.tree_model.specs.Tree.{Pages}
use Rattle.tree_read.specs.Search.{KeepsNodes}
use Rattle.tree_splice.proofs.nodes.forget_runs.Given as goal

abbrev pub invariant-loop-run : goal.invariant-loop-run
invariant-loop-run l = (told : Bool) (size : ℕ) (at : Pages) → KeepsNodes told size at l.fn.cache → KeepsNodes told size at l.cache
