use Rattle.std.proofs.Common.{◌≡◌, take}
use Rattle.node_codec.proofs.pair_list.Pairs.copy_from.Given as goal

abbrev pub invariant-loop-pair : goal.invariant-loop-pair
invariant-loop-pair l = record {
  items : l.self.items ≡ take l.pair-index l.pairs;
  room : l.self.room ≡ l.fn.self.room;
}
