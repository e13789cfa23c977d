-- The last segment is popped and held, or stays in the list where one of its pages is held.
use Rattle.std.proofs.Common.{◌≤◌, [], ◌∷◌, length, ap, subst, arith, rules, ◌∙◌}
use Rattle.std.specs.List.{AllByRecursion}
use Rattle.std.proofs.lemmas.List.{length-append}
use Rattle.page_port.specs.Pages.{IsSized}
use Rattle.span_store.specs.Held.{LacksRun}
use Rattle.change_laws.proofs.PartLemmas.{all-left, all-right}
use Rattle.held_parts.proofs.HeldLemmas.{held_last-more, held_last-none}
use Rattle.held_parts.proofs.holding.hold_all.Goals as goal

pub moves-init : goal.moves-init
moves-init g c = record {
  last = held_last-none (λ s. g.S.Span.start s.span) (λ s. g.S.Span.contents s.span) c.args.segments.now.items c.args.held.now;
  some = c.requires.some;
  room = c.requires.room;
  sized = λ size old all. (old, all);
}

pub moves-preserved : goal.moves-preserved
moves-preserved g c =
    let kept = c.moves.invariant in
    let popped = c.in-Some.ensures.items in
    let some = subst (AllByRecursion (λ s. 1 ≤ length (g.S.Span.contents s.span))) popped kept.some in
    let count = ap length popped ∙ length-append c.pop.new.self.items (c.in-Some.segment ∷ []) in
    let room = kept.room in
    let added = c.add.ensures.added in
    let apart : LacksRun c.moves.held (g.S.Span.start c.in-Some.segment.span) (length (g.S.Span.contents c.in-Some.segment.span)) =
    search rules in
    record {
      last = held_last-more (λ s. g.S.Span.start s.span) (λ s. g.S.Span.contents s.span) c.args.segments.now.items c.moves.segments.items
          c.pop.new.self.items c.in-Some.segment c.args.held.now c.moves.held c.add.new.self popped
          (all-right (λ s. 1 ≤ length (g.S.Span.contents s.span)) c.pop.new.self.items (c.in-Some.segment ∷ []) some).0 kept.last
          apart added;
      some = all-left (λ s. 1 ≤ length (g.S.Span.contents s.span)) c.pop.new.self.items (c.in-Some.segment ∷ []) some;
      room = omega (arith, count, room, added.count, added.room);
      sized = λ size old all.
          let so_far = kept.sized size old all in
          let parts = subst (AllByRecursion (λ s. IsSized g.S.Span.tells size (g.S.Span.contents s.span))) popped so_far.1 in (
            c.add.ensures.sized size (all-right (λ s. IsSized g.S.Span.tells size (g.S.Span.contents s.span)) c.pop.new.self.items
                (c.in-Some.segment ∷ []) parts).0 so_far.0,
            all-left (λ s. IsSized g.S.Span.tells size (g.S.Span.contents s.span)) c.pop.new.self.items (c.in-Some.segment ∷ []) parts,
          );
    }

pub returns-then-not-lacks-clause-sized : goal.returns-then-not-lacks-clause-sized
returns-then-not-lacks-clause-sized g c = λ size old all. (c.moves.invariant.sized size old all).0

pub returns-clause-sized : goal.returns-clause-sized
returns-clause-sized g c = λ size old all. (c.moves.invariant.sized size old all).0
