use Rattle.std.proofs.Common.{◌≡◌, ◌+◌, ◌*◌, ◌++◌, length, take}
use Rattle.std.specs.List.{AllByRecursion, flat_map}
use Rattle.tree_model.specs.Node.{IsPair, head_bytes, pair_bytes}
use Rattle.node_codec.proofs.write.encode.Given as goal

abbrev pub invariant-loop-pair : goal.invariant-loop-pair
invariant-loop-pair l = record {
  place : l.at ≡ 8 + 12 * l.pair-index;
  written : take (8 + 12 * l.pair-index) l.page
      ≡ head_bytes l.fn.node.level (length l.pairs) ++ flat_map pair_bytes (take l.pair-index l.pairs);
  each : AllByRecursion IsPair (take l.pair-index l.pairs);
}
