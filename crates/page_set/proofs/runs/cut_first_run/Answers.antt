-- Each turn takes out the pages that stand side by side in one word.
use Rattle.std.proofs.Common.{inl, inr, ◌≡◌, ℕ, ◌+◌, ◌-◌, ◌^◌, ◌<◌, ◌≤◌, Bool, false, IsTrue, sym, ap, ◌∙◌, arith}
use Rattle.std.proofs.lemmas.Bool.{false≢true, cases_eq}
use Rattle.page_set.specs.Members.{AllOn, IsWithoutRun}
use Rattle.page_set.specs.Words.{in_words}
use Rattle.page_set.proofs.RunLaws.{all_more, cut_more, none_cut}
use Rattle.page_set.proofs.runs.cut_first_run.Goals as goal

pub loop-words-init : goal.loop-words-init
loop-words-init c =
    let nothing : c.args.first - c.args.first ≡ 0 = omega arith in record {
      from = omega arith;
      all = λ page low high. absurd (omega arith);
      cut = none_cut (in_words c.args.words.now) c.args.first (c.args.first - c.args.first) nothing;
    }

pub cut_side_by_side-at-requires : goal.cut_side_by_side-at-requires
cut_side_by_side-at-requires c = sym c.has_page.ensures ∙ c.loop-words-test.true

-- the last of the pages that came out was in the set, so the one behind it is a number
last_bounded : (f g : ℕ → Bool) (first at n : ℕ) → first ≤ at → ((page : ℕ) → IsTrue (f page) → page + 1 < 2 ^ 32) →
    IsWithoutRun first (at - first) f g → 1 ≤ n → AllOn g at n → at + n < 2 ^ 32
last_bounded f g first at n from bound cut some all =
    omega (arith, bound (at + n - 1) (sym (cut.beside (at + n - 1) (inr (omega arith))) ∙ all (at + n - 1) (omega arith) (omega arith)))

bounded_at : (c : goal.After-cut_side_by_side-at) → c.loop-words.at + c.cut_side_by_side-at.result < 2 ^ 32
bounded_at c =
    let kept = c.loop-words.invariant in
    last_bounded (in_words c.args.words.now) (in_words c.loop-words.words) c.args.first c.loop-words.at
    c.cut_side_by_side-at.result kept.from c.requires.bound kept.cut c.cut_side_by_side-at.ensures.some c.cut_side_by_side-at.ensures.all

pub overflow_add-at : goal.overflow_add-at
overflow_add-at c = omega (arith, bounded_at c)

pub loop-words-smaller : goal.loop-words-smaller
loop-words-smaller c = omega (arith, c.cut_side_by_side-at.ensures.some, bounded_at c)

pub loop-words-preserved : goal.loop-words-preserved
loop-words-preserved c =
    let kept = c.loop-words.invariant in
    let f = in_words c.args.words.now in
    let g = in_words c.loop-words.words in
    let h = in_words c.cut_side_by_side-at.new.words in record {
      from = omega (arith, kept.from);
      all = all_more f g c.args.first c.loop-words.at c.cut_side_by_side-at.result kept.from kept.cut.beside kept.all
          c.cut_side_by_side-at.ensures.all;
      cut = cut_more f g h c.args.first c.loop-words.at c.cut_side_by_side-at.result kept.from kept.cut c.cut_side_by_side-at.ensures.cut;
    }

-- the first page was in the set, so one page at least came out
moved : (f g : ℕ → Bool) (first at : ℕ) → first ≤ at → IsTrue (f first) → IsWithoutRun first (at - first) f g → g at ≡ false → first < at
moved f g first at from t cut out = elim (cases_eq at first) [
  | inl e ↦ absurd (false≢true (sym out ∙ cut.beside at (inr (omega arith)) ∙ ap f e ∙ t))
  | inr ne ↦ omega arith
]

pub returns : goal.returns
returns c =
    let kept = c.loop-words.invariant in
    let f = in_words c.args.words.now in
    let g = in_words c.loop-words.words in
    let out = sym c.has_page.ensures ∙ c.loop-words-test.false in
    let place : c.args.first + (c.loop-words.at - c.args.first) ≡ c.loop-words.at = omega (arith, kept.from) in record {
      some = omega (arith, moved f g c.args.first c.loop-words.at kept.from c.requires.some kept.cut out);
      all = kept.all;
      ends = ap f place ∙ sym (kept.cut.beside c.loop-words.at (inr (omega arith))) ∙ out;
      cut = kept.cut;
    }
