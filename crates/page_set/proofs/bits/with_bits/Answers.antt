-- The bits of the mask are set.
use Rattle.std.proofs.Common.{arith}
use Rattle.page_set.proofs.BitLaws.{set_by}
use Rattle.page_set.proofs.bits.with_bits.Goals as goal

pub returns : goal.returns
returns c =
    set_by c.args.word c.mask.result c.args.from c.args.n (record {
      small = omega arith;
      inside = c.mask.ensures.inside;
      beside = c.mask.ensures.beside;
    })
