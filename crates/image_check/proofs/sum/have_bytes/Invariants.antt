use Rattle.std.proofs.Common.{◌≡◌, ◌+◌, take}
use Rattle.tree_model.specs.Tree.{bytes_of}
use Rattle.image_check.proofs.sum.have_bytes.Given as goal

abbrev pub invariant-loop-pair : goal.invariant-loop-pair
invariant-loop-pair l = record {
  so_far : l.left + bytes_of (take l.pair-index l.pairs) ≡ l.bytes;
}
