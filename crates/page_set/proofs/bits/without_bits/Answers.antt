-- The bits of the mask are cleared.
use Rattle.std.proofs.Common.{arith}
use Rattle.page_set.proofs.BitLaws.{cleared_by}
use Rattle.page_set.proofs.bits.without_bits.Goals as goal

pub returns : goal.returns
returns c =
    cleared_by c.args.word c.mask.result c.args.from c.args.n (omega arith) c.requires.within
    (record { small = omega arith; inside = c.mask.ensures.inside; beside = c.mask.ensures.beside })
