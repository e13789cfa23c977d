-- The first pair that ends behind the byte has it, and one does, since all of them do.
use Rattle.std.proofs.Common.{arith}
use Rattle.tree_model.specs.declared.entry.Pair.{Pair}
use Rattle.tree_read.proofs.ChildLemmas.{bytes_of-more, in_range-byte}
use Rattle.tree_read.proofs.children.child_at.Goals as goal

abbrev none : Pair
none = record { bytes = 0; page = 0 }

pub loop-pair-preserved : goal.loop-pair-preserved
loop-pair-preserved c =
    let more = bytes_of-more c.args.pairs.now c.loop-pair.pair-index none c.loop-pair-test.true in
    record { place = omega arith; before = omega arith }

pub returns-then-at-place : goal.returns-then-at-place
returns-then-at-place c =
    in_range-byte c.args.at c.args.start c.args.pairs.now c.loop-pair.pair-index none c.loop-pair.place c.loop-pair-test.true
    c.loop-pair.invariant.place c.loop-pair.invariant.before (omega arith)
