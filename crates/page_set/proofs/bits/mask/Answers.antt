-- The ones of a mask are shifted to their place.
use Rattle.std.proofs.Common.{ℕ, ap, ◌∙◌}
use Rattle.page_set.specs.Words.{is_bit}
use Rattle.page_set.proofs.BitLaws.{mask_is, mask_inside, mask_beside}
use Rattle.page_set.proofs.bits.mask.Goals as goal

pub returns : goal.returns
returns c =
    let e = mask_is c.args.from c.args.n c.requires.some c.requires.within in record {
      inside = λ i low high. ap (λ (m : ℕ). is_bit m i) e ∙ mask_inside c.args.from c.args.n i low high;
      beside = λ i out. ap (λ (m : ℕ). is_bit m i) e ∙ mask_beside c.args.from c.args.n i out;
    }
