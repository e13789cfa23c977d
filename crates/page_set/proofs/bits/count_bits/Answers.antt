-- The ones of the masked word are the bits of the run that are set.
use Rattle.std.proofs.Common.{arith}
use Rattle.page_set.proofs.BitLaws.{counted_by}
use Rattle.page_set.proofs.bits.count_bits.Goals as goal

pub returns : goal.returns
returns c =
    counted_by c.args.word c.mask.result c.args.from c.args.n (omega arith) c.requires.within
    (record { small = omega arith; inside = c.mask.ensures.inside; beside = c.mask.ensures.beside })
