-- A full word has ones to its end; another ends where its first zero stands.
use Rattle.std.proofs.Common.{ℕ, ◌∙◌, ap, subst, sym, arith}
use Rattle.page_set.specs.Words.{is_bit}
use Rattle.page_set.proofs.BitLaws.{IsRunOfBits, all_set, run_at}
use Rattle.page_set.proofs.bits.run_of_bits.Goals as goal

pub returns-then-word-eq18446744073709551615 : goal.returns-then-word-eq18446744073709551615
returns-then-word-eq18446744073709551615 c = record {
  within = omega arith;
  all = λ i low high. ap (λ (w : ℕ). is_bit w i) c.if-word-eq18446744073709551615.true ∙ all_set i (omega arith);
  ends = λ short. absurd (omega arith);
}

pub returns : goal.returns
returns c =
    let found = run_at c.args.word c.args.from (omega arith) (λ e. c.if-word-eq18446744073709551615.false e) c.requires in
    let run = subst (λ (n : ℕ). IsRunOfBits c.args.word c.args.from n) (sym c.trailing_ones.ensures) found in
    record { within = run.within; all = run.all; ends = run.ends }
