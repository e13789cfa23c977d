-- The word is written with the pages' bits cleared, unless none of them is set.
use Rattle.std.proofs.Common.{◌≡◌, ℕ, ◌/◌, ◌%◌, ◌≤◌, ap, subst, sym, ◌∙◌, arith, refl}
use Rattle.page_set.specs.Members.{IsWithoutRun, count_on}
use Rattle.page_set.specs.Words.{is_bit, in_words, word}
use Rattle.page_set.proofs.Counts.{none_counted}
use Rattle.page_set.proofs.WordLaws.{IsWritten, cut_by, same_room, counted_in_word, nothing_taken, there_by_count}
use Rattle.page_set.proofs.words.cut_pages.Goals as goal

pub returns-then-present-eq0 : goal.returns-then-present-eq0
returns-then-present-eq0 c =
    let old = c.args.words.now in
    let first = c.args.first in
    let n = c.args.n in
    let counted = c.count_bits-present.ensures
    ∙ ap (λ (w : ℕ). count_on (is_bit w) (first % 64) n) c.word_at-word.ensures
    ∙ counted_in_word old first n c.requires.within in
    let none : count_on (in_words old) first n ≡ 0 = sym counted ∙ c.if-present-eq0.true in
    record {
      cut = nothing_taken (in_words old) first n (none_counted (in_words old) first n none);
      room = λ k. refl;
      size = sym none;
    }

there : (w v first n : ℕ) (present : ℕ) → w ≡ v → present ≡ count_on (is_bit w) first n → (present ≡ 0 → ⊥) →
    1 ≤ count_on (is_bit v) first n
there w v first n present e counted some = omega (arith, some, counted ∙ ap (λ (x : ℕ). count_on (is_bit x) first n) e)

pub write-requires : goal.write-requires
write-requires c =
    there_by_count c.args.words.now (c.args.first / 64) (c.args.first % 64) c.args.n
    (there c.word_at-word.result (word c.args.words.now (c.args.first / 64))
    (c.args.first % 64) c.args.n c.count_bits-present.result c.word_at-word.ensures c.count_bits-present.ensures
    c.if-present-eq0.false)

pub returns : goal.returns
returns c =
    let old = c.args.words.now in
    let new = c.write.new.words in
    let first = c.args.first in
    let n = c.args.n in
    let written : IsWritten old new (first / 64) c.without_bits.result = record {
      there = there_by_count old (first / 64) (first % 64) n
          (there c.word_at-word.result (word old (first / 64))
          (first % 64) n c.count_bits-present.result c.word_at-word.ensures c.count_bits-present.ensures
          c.if-present-eq0.false);
      written = c.write.ensures.written;
      others = c.write.ensures.others;
    } in
    let cut = subst (λ (w : ℕ). IsWithoutRun (first % 64) n (is_bit w)
    (is_bit c.without_bits.result)) c.word_at-word.ensures c.without_bits.ensures in
    record {
      cut = cut_by old new first n c.without_bits.result c.requires.within written cut;
      room = same_room old new (first / 64) c.without_bits.result written;
      size = c.count_bits-present.ensures ∙ ap (λ (w : ℕ). count_on (is_bit w) (first % 64) n) c.word_at-word.ensures
          ∙ counted_in_word old first n c.requires.within;
    }
