-- The place of the lowest one.
use Rattle.std.proofs.Common.{ℕ, ◌<◌, ◌^◌, ◌≡◌, IsTrue, false, arith}
use Rattle.std.specs.Int.{w64, trailing_zeros}
use Rattle.std.proofs.lemmas.Nat.Bits.{bit_at-trailing_zeros}
use Rattle.page_set.specs.Words.{is_bit}
use Rattle.page_set.proofs.BitLaws.{bit_set, bit_clear}
use Rattle.page_set.proofs.bits.lowest_bit.Goals as goal

record IsLowest (word at : ℕ) : Type 0 where
  within : at < 64
  is_set : IsTrue (is_bit word at)
  lowest : (i : ℕ) → i < at → is_bit word i ≡ false

lowest_is : (word : ℕ) → 0 < word → word < 2 ^ 64 → IsLowest word (trailing_zeros w64 word)
lowest_is word some small =
    let found = bit_at-trailing_zeros w64 word some small in record {
      within = found.0;
      is_set = bit_set word (trailing_zeros w64 word) found.1;
      lowest = λ i less. bit_clear word i (found.2 i less);
    }

pub returns : goal.returns
returns c =
    let at = lowest_is c.args.word c.requires (omega arith) in
    record { within = at.within; set = at.is_set; lowest = at.lowest }
