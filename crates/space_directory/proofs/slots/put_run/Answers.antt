-- One page more stands in its slot.
use Rattle.std.proofs.Common.{◌≡◌, ◌+◌, ◌-◌, ◌<◌, ℕ, List, length, take, drop, sym, ap, ◌∙◌, arith, length-drop}
use Rattle.std.proofs.lemmas.List.{drop-drop, take_all}
use Rattle.space_directory.proofs.Slotted.{filled_next, keeps_next}
use Rattle.space_directory.proofs.slots.put_run.Goals as goal

pub loop-rest-preserved : goal.loop-rest-preserved
loop-rest-preserved g c =
    let kept = c.loop-rest.invariant in
    let place : c.loop-rest.to ≡ c.args.at + (c.loop-rest.to - c.args.at) = omega (arith, kept.from) in
    let more : c.loop-rest.to + 1 - c.args.at ≡ c.loop-rest.to - c.args.at + 1 = omega (arith, kept.from) in
    let within : c.loop-rest.to < length c.loop-rest.slots = omega (arith, kept.count, kept.from, c.pages.ensures.some) in
    let left : g.S.Span.contents c.cut-page.new.self ≡ drop (c.loop-rest.to + 1 - c.args.at) (g.S.Span.contents c.args.span) =
    c.cut-page.ensures.rest_pages ∙ ap (λ (ps : List (List ℕ)). drop 1 ps) kept.left
    ∙ drop-drop 1 (c.loop-rest.to - c.args.at) (g.S.Span.contents c.args.span)
    ∙ ap (λ (k : ℕ). drop k (g.S.Span.contents c.args.span)) (sym more) in
    record {
      from = omega (arith, kept.from);
      begins = c.cut-page.ensures.rest ∙ omega (arith, kept.begins, kept.from);
      left = left;
      count = omega (
        arith,
        ap length c.cut-page.ensures.rest_pages,
        length-drop 1 (g.S.Span.contents c.loop-rest.rest),
        kept.count,
        kept.from,
        c.pages.ensures.some,
      );
      filled = filled_next g.S.Span.start g.S.Span.contents (g.S.Span.start c.args.span)
          (g.S.Span.contents c.args.span) c.loop-rest.slots c.args.at (c.loop-rest.to - c.args.at) c.loop-rest.to
          (c.loop-rest.to + 1 - c.args.at) c.cut-page.result place more within
          (c.cut-page.ensures.front ∙ kept.begins)
          (c.cut-page.ensures.front_pages ∙ ap (λ (ps : List (List ℕ)). take 1 ps) kept.left) kept.filled;
      others = keeps_next c.args.slots.now c.loop-rest.slots c.args.at (c.loop-rest.to - c.args.at) c.loop-rest.to
          (c.loop-rest.to + 1 - c.args.at) _ place more kept.others;
    }

pub returns-clause-filled : goal.returns-clause-filled
returns-clause-filled g c =
    let kept = c.loop-rest.invariant in
    let place : c.loop-rest.to ≡ c.args.at + (c.loop-rest.to - c.args.at) = omega (arith, kept.from) in
    let one : length (g.S.Span.contents c.loop-rest.rest) ≡ 1 = omega (arith, c.pages.ensures.some, c.pages.ensures.count) in
    let more : length (g.S.Span.contents c.args.span) ≡ c.loop-rest.to - c.args.at + 1 = omega (arith, kept.count) in
    let within : c.loop-rest.to < length c.loop-rest.slots = omega (arith, kept.count, kept.from, c.pages.ensures.some) in
    filled_next g.S.Span.start g.S.Span.contents (g.S.Span.start c.args.span)
    (g.S.Span.contents c.args.span) c.loop-rest.slots c.args.at (c.loop-rest.to - c.args.at) c.loop-rest.to
    (length (g.S.Span.contents c.args.span)) c.loop-rest.rest place more within
    kept.begins (sym (take_all 1 (g.S.Span.contents c.loop-rest.rest) (omega arith))
    ∙ ap (λ (ps : List (List ℕ)). take 1 ps) kept.left) kept.filled
