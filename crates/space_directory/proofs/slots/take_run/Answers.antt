-- One page more, in front, joins the span.
use Rattle.std.proofs.Common.{◌≡◌, ℕ, ◌+◌, ◌-◌, ◌<◌, suc, [], ◌∷◌, length, Option, refl, sym, ap, ◌∙◌, arith, length-append}
use Rattle.std.specs.Prelude.{Some}
use Rattle.page_port.specs.Pages.{run}
use Rattle.space_directory.specs.Slots.{span_in, page_held, pages_held}
use Rattle.space_directory.proofs.Slotted.{page_of, emptied_earlier, keeps_earlier, keeps_none, run_held-earlier}
use Rattle.space_directory.proofs.HeldLaws.{one_page, run_held-more}
use Rattle.space_directory.proofs.slots.take_run.Goals as goal

pub loop-from-init : goal.loop-from-init
loop-from-init g c =
    let one : c.args.at + c.args.n - (c.args.at + c.args.n - 1) ≡ suc 0 = omega (arith, c.requires.some) in
    let within : c.args.at + c.args.n - 1 < length c.args.slots.now = omega (arith, c.requires.some, c.requires.within) in
    let page = page_of g.S.Span.start g.S.Span.contents (c.requires.row.0 + (c.args.at + c.args.n - 1))
    (span_in c.args.slots.now (c.args.at + c.args.n - 1)) c.take_one-span.result
    (c.requires.row.1.each (c.args.at + c.args.n - 1) (omega (arith, c.requires.some))
    (omega (arith, c.requires.some))) c.take_one-span.ensures.held in
    record {
      low = omega (arith, c.requires.some);
      high = omega (arith, c.requires.some);
      begins = λ base row. (page_of g.S.Span.start g.S.Span.contents (base + (c.args.at + c.args.n - 1))
          (span_in c.args.slots.now (c.args.at + c.args.n - 1)) c.take_one-span.result
          (row.each (c.args.at + c.args.n - 1) (omega (arith, c.requires.some))
          (omega (arith, c.requires.some))) c.take_one-span.ensures.held).0;
      count = page.1 ∙ sym one;
      pages = one_page (g.S.Span.contents c.take_one-span.result) page.1
          ∙ ap (λ (o : Option _). page_held g.S.Span.contents o ∷ []) (sym c.take_one-span.ensures.held)
          ∙ sym (ap (λ (k : ℕ). run (c.args.at + c.args.n - 1) k (pages_held g.S.Span.contents c.args.slots.now))
          one ∙ run_held-more g.S.Span.contents c.args.slots.now (c.args.at + c.args.n - 1) 0 within);
      emptied = rw c.take_one-span.ensures.emptied (emptied_earlier c.args.slots.now (c.args.at + c.args.n - 1)
          (suc (c.args.at + c.args.n - 1)) 0 (c.args.at + c.args.n - (c.args.at + c.args.n - 1)) refl one within
          (record { each = λ j from to. absurd (omega arith) }));
      others = rw c.take_one-span.ensures.emptied
          (keeps_earlier c.args.slots.now c.args.slots.now (c.args.at + c.args.n - 1)
          (suc (c.args.at + c.args.n - 1)) 0 (c.args.at + c.args.n - (c.args.at + c.args.n - 1)) refl one
          (keeps_none c.args.slots.now (suc (c.args.at + c.args.n - 1))));
    }

pub loop-from-preserved : goal.loop-from-preserved
loop-from-preserved g c =
    let kept = c.loop-from.invariant in
    let before : c.loop-from.from ≡ suc (c.loop-from.from - 1) = omega arith in
    let more : c.args.at + c.args.n - (c.loop-from.from - 1) ≡ suc (c.args.at + c.args.n - c.loop-from.from) = omega (arith, kept.high) in
    let within : c.loop-from.from - 1 < length c.loop-from.slots = omega (arith, kept.high, kept.others.size) in
    let here : span_in c.args.slots.now (c.loop-from.from - 1) ≡ Some c.take_one-page.result =
    sym (kept.others.before (c.loop-from.from - 1) (omega arith)) ∙ c.take_one-page.ensures.held in
    let page = page_of g.S.Span.start g.S.Span.contents (c.requires.row.0 + (c.loop-from.from - 1))
    (span_in c.args.slots.now (c.loop-from.from - 1)) c.take_one-page.result
    (c.requires.row.1.each (c.loop-from.from - 1) (omega (arith, kept.low)) (omega (arith, kept.high))) here in
    record {
      low = omega arith;
      high = omega (arith, kept.high);
      begins = λ base row. c.join.ensures.first
          ∙ (page_of g.S.Span.start g.S.Span.contents (base + (c.loop-from.from - 1))
          (span_in c.args.slots.now (c.loop-from.from - 1)) c.take_one-page.result (row.each (c.loop-from.from - 1)
          (omega (arith, kept.low)) (omega (arith, kept.high))) here).0;
      count = omega (
        arith,
        ap length c.join.ensures.pages,
        length-append (g.S.Span.contents c.take_one-page.result) (g.S.Span.contents c.loop-from.span),
        page.1,
        kept.count,
        kept.high,
      );
      pages = c.join.ensures.pages ∙ run_held-earlier g.S.Span.contents c.args.slots.now (c.loop-from.from - 1)
          c.loop-from.from (c.args.at + c.args.n - c.loop-from.from)
          (c.args.at + c.args.n - (c.loop-from.from - 1)) c.take_one-page.result
          (g.S.Span.contents c.loop-from.span) before more (omega (
            arith,
            within,
            kept.others.size,
          )) here page.1 kept.pages;
      emptied = rw c.take_one-page.ensures.emptied
          (emptied_earlier c.loop-from.slots (c.loop-from.from - 1) c.loop-from.from
          (c.args.at + c.args.n - c.loop-from.from)
          (c.args.at + c.args.n - (c.loop-from.from - 1)) before more within kept.emptied);
      others = rw c.take_one-page.ensures.emptied
          (keeps_earlier c.args.slots.now c.loop-from.slots (c.loop-from.from - 1) c.loop-from.from
          (c.args.at + c.args.n - c.loop-from.from)
          (c.args.at + c.args.n - (c.loop-from.from - 1)) before more kept.others);
    }
