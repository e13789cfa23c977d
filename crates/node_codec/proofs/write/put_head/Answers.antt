-- The eight bytes written are the head's.
use Rattle.tree_model.specs.Node.{head_bytes}
use Rattle.node_codec.proofs.write.put_head.Goals as goal

pub returns : goal.returns
unfolding head_bytes
returns c = let written = rw c.to_be_bytes.ensures at c.put.ensures in written
