-- The last segment is popped and held; those before it are still to come.
use Rattle.std.proofs.Common.{◌≡◌, ◌+◌, ◌∷◌, length, refl, arith}
use Rattle.tree_splice.specs.Fresh.{fresh_page}
use Rattle.tree_splice.proofs.HoldLemmas.{hold-apart, hold-begins, hold-pages, hold-sized, one-span, parts-next, single-parts}
use Rattle.tree_splice.proofs.fresh_pages.FreshPages.hold.Goals as goal

pub add-requires-clause-apart : goal.add-requires-clause-apart
add-requires-clause-apart g c =
    let kept = c.moves.invariant in
    let parts = parts-next (λ s. s.space) (λ s. g.S.Span.start s.span) (λ s. g.S.Span.contents s.span) c.args.self.pages kept.done.0
    c.moves.segments.items c.pop.new.self.items c.in-Some.segment kept.done.1 c.in-Some.ensures.items in
    let one = (single-parts (λ s. length (g.S.Span.contents s.span) ≡ 1) c.moves.segments.items c.pop.new.self.items c.in-Some.segment
    c.in-Some.ensures.items kept.single).1 in
    λ q from to.
    hold-apart c.args.self.pages _ kept.done.0 (fresh_page (λ s. s.space) (λ s. g.S.Span.start s.span) (λ s. g.S.Span.contents s.span)
    c.in-Some.segment)
    c.args.held.now c.moves.held (g.S.Span.start c.in-Some.segment.span) (length (g.S.Span.contents c.in-Some.segment.span)) q parts
    c.requires.apart
    c.requires.lacks kept.done.2 refl one from to

pub moves-preserved : goal.moves-preserved
moves-preserved g c =
    let kept = c.moves.invariant in
    let p = fresh_page (λ s. s.space) (λ s. g.S.Span.start s.span) (λ s. g.S.Span.contents s.span) c.in-Some.segment in
    let parts = parts-next (λ s. s.space) (λ s. g.S.Span.start s.span) (λ s. g.S.Span.contents s.span) c.args.self.pages kept.done.0
    c.moves.segments.items c.pop.new.self.items c.in-Some.segment kept.done.1 c.in-Some.ensures.items in
    let single = single-parts (λ s. length (g.S.Span.contents s.span) ≡ 1) c.moves.segments.items c.pop.new.self.items c.in-Some.segment
    c.in-Some.ensures.items kept.single in
    let span = one-span (λ s. s.space) (λ s. g.S.Span.start s.span) (λ s. g.S.Span.contents s.span) c.in-Some.segment single.1 in
    let count = c.add.ensures.added.count in
    let before = kept.done.4 in
    let more = c.add.ensures.added.room in
    let room = kept.room in
    let long : length (p ∷ kept.done.0) ≡ length kept.done.0 + 1 = omega arith in
    record {
      single = single.0;
      done = (
        p ∷ kept.done.0,
        parts,
        hold-pages kept.done.0 p _ c.args.held.now c.moves.held c.add.new.self span c.add.ensures.added kept.done.2,
        hold-begins kept.done.0 p _ c.args.held.now c.moves.held c.add.new.self span c.add.ensures.added kept.done.3,
        omega (arith, count, before, long),
      );
      room = omega (arith, more, room);
      sized = λ size all old.
          c.add.ensures.sized size
          (hold-sized (λ s. s.space) (λ s. g.S.Span.start s.span) (λ s. g.S.Span.contents s.span) g.S.Span.tells size c.args.self.pages _
          kept.done.0
          c.in-Some.segment single.1 parts all)
          (kept.sized size all old);
    }
