-- The bits side by side are the pages side by side.
use Rattle.std.proofs.Common.{inl, inr, true, ◌≡◌, ℕ, ◌+◌, ◌/◌, ◌%◌, ◌<◌, ◌≤◌, sym, ap, subst, ◌∙◌, arith}
use Rattle.std.proofs.lemmas.Bool.{false≢true, cases_eq}
use Rattle.page_set.specs.Words.{is_bit, word}
use Rattle.page_set.proofs.BitLaws.{IsRunOfBits}
use Rattle.page_set.proofs.WordLaws.{all_in_word}
use Rattle.page_set.proofs.words.cut_side_by_side.Goals as goal

-- a run of bits that begins at a set bit has one
some_bit : (w from n : ℕ) → from < 64 → is_bit w from ≡ true → IsRunOfBits w from n → 1 ≤ n
some_bit w from n less t run = elim (cases_eq n 0) [
  | inl e ↦ let at : from + n ≡ from = omega arith in
      absurd (false≢true (sym (run.ends (omega arith)) ∙ ap (λ (i : ℕ). is_bit w i) at ∙ t))
  | inr ne ↦ omega arith
]

-- the run that was found is one of the set's word
run_in : (c : goal.After-cut_pages-arg-1) →
    IsRunOfBits (word c.args.words.now (c.args.first / 64)) (c.args.first % 64) c.run_of_bits-n.result
run_in c =
    let run : IsRunOfBits c.word_at.result (c.args.first % 64) c.run_of_bits-n.result = record {
      within = c.run_of_bits-n.ensures.within;
      all = c.run_of_bits-n.ensures.all;
      ends = c.run_of_bits-n.ensures.ends;
    } in
    subst (λ (w : ℕ). IsRunOfBits w (c.args.first % 64) c.run_of_bits-n.result) c.word_at.ensures run

some_page : (c : goal.After-cut_pages-arg-1) → 1 ≤ c.run_of_bits-n.result
some_page c =
    some_bit (word c.args.words.now (c.args.first / 64)) (c.args.first % 64) c.run_of_bits-n.result (omega arith) c.requires (run_in c)

pub cut_pages-requires : goal.cut_pages-requires
cut_pages-requires c = record { some = some_page c; within = (run_in c).within }

pub returns : goal.returns
returns c =
    let run = run_in c.before in record {
      some = some_page c.before;
      all = all_in_word c.args.words.now c.args.first c.run_of_bits-n.result run.within run.all;
      cut = c.cut_pages.ensures.cut;
    }
