-- One run more stands in its place.
use Rattle.std.proofs.Common.{◌≡◌, ◌+◌, ◌-◌, ◌<◌, ◌≤◌, ℕ, List, length, take, drop, Option, Some, sym, ap, ◌∙◌, subst, arith}
use Rattle.block_model.specs.Block.{has_page}
use Rattle.space_directory.specs.Opening.{IsRest, pages_of_all, unfree}
use Rattle.space_directory.proofs.Opened.{rest_more, used_more, slots_more, held_more, apart_next, ends_next, gap_next, all_held, cut_at}
use Rattle.space_directory.proofs.cut.cut_apart.Goals as goal

pub runs-preserved : goal.runs-preserved
runs-preserved g c =
    let kept = c.runs.invariant in
    let r : IsRest g.S.Span.start g.S.Span.contents (g.S.Span.start c.args.span)
    (g.S.Span.contents c.args.span) c.runs.at (Some c.in-Some.span) =
    subst (λ (o : Option _). IsRest g.S.Span.start g.S.Span.contents (g.S.Span.start c.args.span)
    (g.S.Span.contents c.args.span) c.runs.at o) c.in-Some.is kept.rest in
    let same : c.run_end-end.result ≡ c.runs.at + (c.run_end-end.result - c.runs.at) = omega (arith, c.run_end-end.ensures.some) in
    let fits : c.runs.at + (c.run_end-end.result - c.runs.at) ≤ length c.args.map.now =
    omega (
      arith,
      c.run_end-end.ensures.some,
      c.run_end-end.ensures.within,
      c.pages-pages.ensures.count,
      c.requires.count,
    ) in
    let count : length c.args.map.now ≡ length (g.S.Span.contents c.args.span) = sym c.requires.count in
    let alike : (i : ℕ) → i < c.run_end-end.result - c.runs.at →
    has_page c.args.map.now (c.runs.at + i) ≡ c.is_free.result =
    λ i less. c.run_end-end.ensures.alike (c.runs.at + i) (omega arith) (omega arith) ∙ sym c.is_free.ensures in
    let from : g.S.Span.start c.split-run.result.0 ≡ g.S.Span.start c.args.span + c.runs.at = c.split-run.ensures.first ∙ r.1 in
    let held : g.S.Span.contents c.split-run.result.0 ≡ take (c.run_end-end.result - c.runs.at)
    (drop c.runs.at (g.S.Span.contents c.args.span)) = c.split-run.ensures.pages
    ∙ ap (λ (ps : List (List ℕ)). take (c.run_end-end.result - c.runs.at) ps) r.2 in
    let size : length (g.S.Span.contents c.split-run.result.0) ≡ c.run_end-end.result - c.runs.at = ap length held
    ∙ cut_at c.runs.at (c.run_end-end.result - c.runs.at) (g.S.Span.contents c.args.span) (omega arith) in
    record {
      rest = rest_more g.S.Span.start g.S.Span.contents (g.S.Span.start c.args.span) c.runs.at
          (c.run_end-end.result - c.runs.at) c.run_end-end.result (g.S.Span.contents c.args.span) c.in-Some.span
          c.split-run.result.1 same (omega arith) r.1 r.2 c.split-run.ensures.rest;
      within = omega arith;
      slots = λ size sized p less. slots_more g.S.Span.start g.S.Span.contents g.S.Span.tells size
          (g.S.Span.start c.args.span) c.runs.at (c.run_end-end.result - c.runs.at) c.args.map.now
          (g.S.Span.contents c.args.span) c.runs.slots.items c.place_run.new.slots.items c.split-run.result.0
          c.is_free.result fits count alike from held
          c.place_run.ensures.slots c.place_run.ensures.others sized kept.empty (kept.slots size sized) p (omega arith);
      empty = λ p behind. c.place_run.ensures.others.behind p (omega arith) ∙ kept.empty p (omega arith);
      count = c.place_run.ensures.others.size ∙ kept.count;
      used = subst (λ (k : ℕ). pages_of_all g.S.Span.start g.S.Span.contents c.place_run.new.used.items
          ≡ unfree (g.S.Span.start c.args.span) (take k c.args.map.now) (take k (g.S.Span.contents c.args.span))) (sym same)
          (used_more g.S.Span.start g.S.Span.contents (g.S.Span.start c.args.span) c.runs.at
          (c.run_end-end.result - c.runs.at) c.args.map.now (g.S.Span.contents c.args.span) c.runs.used.items
          c.place_run.new.used.items c.split-run.result.0 c.is_free.result fits count alike from held
          c.place_run.ensures.used kept.used);
      held = λ p less. held_more g.S.Span.start g.S.Span.contents (g.S.Span.start c.args.span) c.runs.at
          (c.run_end-end.result - c.runs.at) c.args.map.now (g.S.Span.contents c.args.span) c.runs.slots.items
          c.place_run.new.slots.items c.split-run.result.0 c.is_free.result fits count alike held
          c.place_run.ensures.slots c.place_run.ensures.others kept.empty kept.held p (omega arith);
      apart = apart_next g.S.Span.start g.S.Span.contents (g.S.Span.start c.args.span + c.runs.at) c.runs.used.items
          c.place_run.new.used.items c.split-run.result.0 c.is_free.result c.place_run.ensures.used from
          (λ used. kept.gap (omega arith) (sym c.is_free.ensures ∙ used)) kept.apart;
      ends = ends_next g.S.Span.start g.S.Span.contents (g.S.Span.start c.args.span + c.runs.at)
          (g.S.Span.start c.args.span + c.run_end-end.result) c.runs.used.items c.place_run.new.used.items
          c.split-run.result.0 c.is_free.result c.place_run.ensures.used (omega arith) (omega arith) kept.ends;
      gap = λ within used. gap_next g.S.Span.start g.S.Span.contents (g.S.Span.start c.args.span + c.runs.at)
          (g.S.Span.start c.args.span + c.run_end-end.result) c.runs.used.items c.place_run.new.used.items
          c.split-run.result.0 c.is_free.result c.place_run.ensures.used (omega arith)
          (λ was. c.run_end-end.ensures.other (omega arith) (used ∙ sym was ∙ c.is_free.ensures)) kept.ends;
      fewer = omega (arith, c.place_run.ensures.one, kept.fewer, c.run_end-end.ensures.some);
      room = omega (arith, c.place_run.ensures.room, kept.room);
    }

pub returns-clause-held : goal.returns-clause-held
returns-clause-held g c =
    let kept = c.runs.invariant in
    let end : c.runs.at ≡ length (g.S.Span.contents c.args.span) =
    subst (λ (o : Option _). IsRest g.S.Span.start g.S.Span.contents (g.S.Span.start c.args.span)
    (g.S.Span.contents c.args.span) c.runs.at o) c.in_default.is kept.rest in
    all_held g.S.Span.contents c.args.map.now (g.S.Span.contents c.args.span) c.runs.slots.items kept.count
    (sym c.requires.count) (λ p less. kept.held p (omega (arith, c.requires.count)))
