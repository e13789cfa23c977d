-- Each turn puts the pages of one word in.
use Rattle.std.proofs.Common.{◌≡◌, ℕ, ◌-◌, ◌/◌, refl, ap, subst, ◌∙◌, arith}
use Rattle.page_set.specs.Members.{IsWithRun, count_on}
use Rattle.page_set.specs.Words.{in_words}
use Rattle.page_set.proofs.Counts.{count_on-nothing}
use Rattle.page_set.proofs.RunLaws.{put_more, count_more, none_put}
use Rattle.page_set.proofs.runs.put_run.Goals as goal

pub loop-at-init : goal.loop-at-init
loop-at-init c =
    let nothing : c.args.first - c.args.first ≡ 0 = omega arith in record {
      from = omega arith;
      to = omega arith;
      put = none_put (in_words c.args.words.now) c.args.first (c.args.first - c.args.first) nothing;
      room = λ k. refl;
      size = omega (
        arith,
        nothing,
        ap (λ (n : ℕ). count_on (in_words c.args.words.now) c.args.first n) nothing,
        count_on-nothing (in_words c.args.words.now) c.args.first,
      );
    }

pub put_pages-added-requires : goal.put_pages-added-requires
put_pages-added-requires c = record {
  some = c.step-pages.ensures.some;
  within = c.step-pages.ensures.one;
  room = c.loop-at.invariant.room (c.loop-at.at / 64) ∙ c.requires.room c.loop-at.at c.loop-at.invariant.from (omega arith);
}

pub loop-at-preserved : goal.loop-at-preserved
loop-at-preserved c =
    let kept = c.loop-at.invariant in
    let f = in_words c.args.words.now in
    let g = in_words c.loop-at.words in
    let h = in_words c.put_pages-added.new.words in record {
      from = omega (arith, kept.from);
      to = c.step-pages.ensures.within;
      put = put_more f g h c.args.first c.loop-at.at c.step-pages.result kept.from kept.put c.put_pages-added.ensures.put;
      room = λ k. c.put_pages-added.ensures.room k ∙ kept.room k;
      size = omega (
        arith,
        kept.size,
        kept.from,
        c.put_pages-added.ensures.size,
        count_more f g c.args.first c.loop-at.at c.step-pages.result kept.from kept.put.beside,
      );
    }

pub returns : goal.returns
returns c =
    let kept = c.loop-at.invariant in
    let all : c.loop-at.at - c.args.first ≡ c.args.n = omega (arith, kept.from, kept.to, c.loop-at-test.false) in record {
      put = subst (λ (n : ℕ). IsWithRun c.args.first n (in_words c.args.words.now) (in_words c.loop-at.words)) all kept.put;
      room = kept.room;
      size = omega (arith, kept.size, all, ap (λ (n : ℕ). count_on (in_words c.args.words.now) c.args.first n) all);
    }
