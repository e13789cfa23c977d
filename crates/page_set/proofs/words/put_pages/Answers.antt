-- The word is written with the pages' bits set.
use Rattle.std.proofs.Common.{ℕ, ◌/◌, ◌%◌, ap, subst, ◌∙◌, arith}
use Rattle.page_set.specs.Members.{IsWithRun, count_on}
use Rattle.page_set.specs.Words.{is_bit}
use Rattle.page_set.proofs.Counts.{count_on-most}
use Rattle.page_set.proofs.WordLaws.{IsWritten, put_by, same_room, counted_in_word}
use Rattle.page_set.proofs.words.put_pages.Goals as goal

pub returns : goal.returns
returns c =
    let old = c.args.words.now in
    let new = c.write.new.words in
    let first = c.args.first in
    let n = c.args.n in
    let written : IsWritten old new (first / 64) c.with_bits.result =
    record { there = c.requires.room; written = c.write.ensures.written; others = c.write.ensures.others } in
    let put = subst (λ (w : ℕ). IsWithRun (first % 64) n (is_bit w)
    (is_bit c.with_bits.result)) c.word_at-word.ensures c.with_bits.ensures in
    let counted = c.count_bits-present.ensures
    ∙ ap (λ (w : ℕ). count_on (is_bit w) (first % 64) n) c.word_at-word.ensures
    ∙ counted_in_word old first n c.requires.within in
    record {
      put = put_by old new first n c.with_bits.result c.requires.within written put;
      room = same_room old new (first / 64) c.with_bits.result written;
      size = omega (arith, counted, count_on-most (is_bit c.word_at-word.result) (first % 64) n, c.count_bits-present.ensures);
    }

pub overflow_sub-result : goal.overflow_sub-result
overflow_sub-result c = omega (
  arith,
  c.count_bits-present.ensures,
  count_on-most (is_bit c.word_at-word.result) (c.args.first % 64) c.args.n,
)
