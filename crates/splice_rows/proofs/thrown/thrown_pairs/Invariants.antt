-- The pairs so far have 300 bytes each at most.
use Rattle.std.proofs.Common.{◌≤◌, ◌*◌}
use Rattle.content_laws.specs.Spelling.{HaveBytes}
use Rattle.tree_model.specs.Tree.{bytes_of}
use Rattle.splice_rows.proofs.thrown.thrown_pairs.Given as goal

abbrev pub invariant-loop-i : goal.invariant-loop-i
invariant-loop-i l = record {
  bytes : bytes_of l.pairs.items ≤ 300 * l.i;
  some : HaveBytes l.pairs.items;
}
