-- After the shift the bit is the lowest.
use Rattle.std.proofs.Common.{ℕ, ap}
use Rattle.std.specs.Prelude.{nat_eq}
use Rattle.std.proofs.lemmas.Nat.Bits.{shr_and_one}
use Rattle.page_set.proofs.bits.has_bit.Goals as goal

pub returns : goal.returns
returns c = ap (λ (b : ℕ). nat_eq b 1) (shr_and_one c.args.word c.args.at)
