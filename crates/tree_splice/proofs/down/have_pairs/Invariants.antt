-- Each pair that was seen has a byte under it.
use Rattle.std.proofs.Common.{take}
use Rattle.content_laws.specs.Spelling.{HaveBytes}
use Rattle.tree_splice.proofs.down.have_pairs.Given as goal

abbrev pub invariant-loop-pair : goal.invariant-loop-pair
invariant-loop-pair l = HaveBytes (take l.pair-index l.pairs)
