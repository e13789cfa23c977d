-- Each line that was written is one more.
use Rattle.std.proofs.Common.{◌≡◌, ◌<◌, ◌+◌, suc, ◌++◌, length, get_or, ap, ◌∙◌, arith}
use Rattle.work_gen.specs.Summary.{count_words, summary_line}
use Rattle.work_gen.proofs.TextLemmas.{written-more}
use Rattle.work_gen.proofs.text.push_counts.Goals as goal

pub counts-preserved : goal.counts-preserved
counts-preserved c =
    let here : c.counts.place < 17 = omega (arith, c.counts-test.true) in
    let there : c.counts.place < length c.args.counts.now = omega (arith, here, c.told-counts) in
    let next : c.counts.place + 1 ≡ suc c.counts.place = omega arith in
    record {
      whole = written-more count_words c.args.counts.now _ _ _ c.counts.place _ here there next
          (c.in_ok-push_line.ensures
          ∙ ap (λ w. c.counts.text.items ++ summary_line w (get_or c.args.counts.now c.counts.place 0)) c.count_word.ensures)
          c.counts.invariant.whole;
      within = omega (arith, here);
    }
