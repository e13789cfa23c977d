-- One page more is granted, or none, and then as many as before.
use Rattle.std.proofs.Common.{length, ap, subst, sym, ◌∙◌}
use Rattle.span_store.specs.Held.{page_at}
use Rattle.superdirectory.specs.Rest.{Frame, count}
use Rattle.tree_splice.specs.Fresh.{FreshList, AreHomely}
use Rattle.tree_splice.proofs.AskLemmas.{asked-next, asked-stop, low-behind, lacked-next, number-next, part-any}
use Rattle.tree_splice.proofs.making.ask_all.Goals as goal

pub returns-in-Err-clause-told : goal.returns-in-Err-clause-told
returns-in-Err-clause-told g c = λ views told same.
    let kept = c.loop-page.invariant in
    asked-stop views c.args.start c.loop-page._page c.args.want (g.L.Hints.rest c.args.latches.now).frame c.loop-page.pages.pages
    c.ask.new.self.pages c.in-Err.fail (g.L.Hints.rest c.loop-page.latches) (g.L.Hints.rest c.ask.new.latches) c.loop-page-test.true
    (ap (λ (l : FreshList). l.pages) c.in-Err.ensures.err) kept.rest.frame same (kept.told views told same) c.in-Err.ensures.told

pub returns-in-Err-clause-low : goal.returns-in-Err-clause-low
returns-in-Err-clause-low g c =
    let kept = c.loop-page.invariant in
    low-behind (count (g.L.Hints.rest c.args.latches.now)) (count (g.L.Hints.rest c.loop-page.latches)) _
    (g.L.Hints.trace c.args.latches.now)
    (g.L.Hints.trace c.loop-page.latches) (g.L.Hints.trace c.ask.new.latches) (ap (λ (f : Frame). length f.firsts) (sym kept.rest.frame))
    kept.trace
    c.in-Err.ensures.low

pub loop-page-preserved : goal.loop-page-preserved
loop-page-preserved g c =
    let kept = c.loop-page.invariant in
    let more = c.in-Ok.ensures.more in
    let old = c.loop-page.pages.pages in
    let all = c.ask.new.self.pages in
    record {
      number = number-next c.loop-page._page old all (page_at c.args.held.now) more kept.number;
      room = c.ask.ensures.kept ∙ kept.room;
      lacked = lacked-next old all (page_at c.args.held.now) more kept.lacked;
      apart = c.ask.ensures.apart;
      home = subst (λ (f : Frame). AreHomely g.S.Span.tells f all) kept.rest.frame c.ask.ensures.home;
      rest = record { frame = c.ask.ensures.rest.frame ∙ kept.rest.frame; entered = c.ask.ensures.rest.entered };
      told = λ views told same.
          asked-next views c.args.start c.loop-page._page (g.L.Hints.rest c.args.latches.now).frame old all (page_at c.args.held.now)
          (g.L.Hints.rest c.loop-page.latches) (g.L.Hints.rest c.ask.new.latches) more kept.rest.frame same (kept.told views told same)
          c.in-Ok.ensures.told;
      trace = part-any _ (g.L.Hints.trace c.args.latches.now) (g.L.Hints.trace c.loop-page.latches) (g.L.Hints.trace c.ask.new.latches)
          kept.trace c.ask.ensures.low;
    }
