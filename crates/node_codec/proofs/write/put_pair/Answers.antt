-- The count's 8 bytes and then the page's 4 are the pair's 12.
use Rattle.std.proofs.Common.{refl}
use Rattle.std.specs.Int.{w32, w64, to_be_bytes}
use Rattle.tree_model.specs.Node.{pair_bytes}
use Rattle.node_codec.proofs.WriteLemmas.{two_parts}
use Rattle.node_codec.proofs.write.put_pair.Goals as goal

pub returns-clause-written : goal.returns-clause-written
unfolding pair_bytes
returns-clause-written c =
    two_parts c.args.at c.args.page.now c.put.new.page c.put-2.new.page c.to_be_bytes.result c.to_be_bytes-2.result
    (to_be_bytes w64 c.args.pair.bytes) (to_be_bytes w32 c.args.pair.page)
    c.to_be_bytes.ensures c.to_be_bytes-2.ensures refl refl c.put.ensures c.put-2.ensures
