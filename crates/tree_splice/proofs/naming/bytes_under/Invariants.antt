use Rattle.std.proofs.Common.{◌≡◌, ◌<◌, ◌^◌, take}
use Rattle.tree_model.specs.Tree.{bytes_of}
use Rattle.tree_splice.proofs.naming.bytes_under.Given as goal

abbrev pub invariant-loop-pair : goal.invariant-loop-pair
invariant-loop-pair l = record {
  so_far : l.sum ≡ bytes_of (take l.pair-index l.pairs);
  fits : l.sum < 2 ^ 64;
}
