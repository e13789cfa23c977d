-- Each turn takes the pages of one word out.
use Rattle.std.proofs.Common.{◌≡◌, ℕ, ◌-◌, refl, ap, subst, ◌∙◌, arith}
use Rattle.page_set.specs.Members.{IsWithoutRun, count_on}
use Rattle.page_set.specs.Words.{in_words}
use Rattle.page_set.proofs.Counts.{count_on-most, count_on-nothing}
use Rattle.page_set.proofs.RunLaws.{cut_more, count_more, none_cut}
use Rattle.page_set.proofs.runs.cut_run.Goals as goal

pub loop-at-init : goal.loop-at-init
loop-at-init c =
    let nothing : c.args.first - c.args.first ≡ 0 = omega arith in record {
      from = omega arith;
      to = omega arith;
      cut = none_cut (in_words c.args.words.now) c.args.first (c.args.first - c.args.first) nothing;
      room = λ k. refl;
      size = omega (
        arith,
        nothing,
        ap (λ (n : ℕ). count_on (in_words c.args.words.now) c.args.first n) nothing,
        count_on-nothing (in_words c.args.words.now) c.args.first,
      );
    }

pub overflow_add-removed : goal.overflow_add-removed
overflow_add-removed c =
    let kept = c.loop-at.invariant in
    omega (
      arith,
      kept.size,
      kept.from,
      c.step-pages.ensures.within,
      c.requires.within,
      c.cut_pages-removed.ensures.size,
      count_on-most (in_words c.args.words.now) c.args.first (c.loop-at.at - c.args.first),
      count_on-most (in_words c.loop-at.words) c.loop-at.at c.step-pages.result,
    )

pub loop-at-preserved : goal.loop-at-preserved
loop-at-preserved c =
    let kept = c.loop-at.invariant in
    let f = in_words c.args.words.now in
    let g = in_words c.loop-at.words in
    let h = in_words c.cut_pages-removed.new.words in record {
      from = omega (arith, kept.from);
      to = c.step-pages.ensures.within;
      cut = cut_more f g h c.args.first c.loop-at.at c.step-pages.result kept.from kept.cut c.cut_pages-removed.ensures.cut;
      room = λ k. c.cut_pages-removed.ensures.room k ∙ kept.room k;
      size = omega (
        arith,
        kept.size,
        kept.from,
        c.cut_pages-removed.ensures.size,
        count_more f g c.args.first c.loop-at.at c.step-pages.result kept.from kept.cut.beside,
      );
    }

pub returns : goal.returns
returns c =
    let kept = c.loop-at.invariant in
    let all : c.loop-at.at - c.args.first ≡ c.args.n = omega (arith, kept.from, kept.to, c.loop-at-test.false) in record {
      cut = subst (λ (n : ℕ). IsWithoutRun c.args.first n (in_words c.args.words.now) (in_words c.loop-at.words)) all kept.cut;
      room = kept.room;
      size = omega (arith, kept.size, all, ap (λ (n : ℕ). count_on (in_words c.args.words.now) c.args.first n) all);
    }
