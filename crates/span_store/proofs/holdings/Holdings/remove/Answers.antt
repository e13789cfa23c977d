-- The last span that begins at the page or before it begins there.
use Rattle.std.proofs.Common.{◌+◌, List, length, sym, ap, subst, ◌∙◌}
use Rattle.span_store.specs.Held.{Held, HeldSpan, begins, span_of}
use Rattle.span_store.specs.Order.{InOrder, IsRank}
use Rattle.span_store.specs.Pieces.{IsLastBegun, rank_of, spans_in}
use Rattle.span_store.specs.Calls.{IsRemoved}
use Rattle.span_store.proofs.Holds.{sized_removed}
use Rattle.span_store.proofs.InPieces.{at_within}
use Rattle.span_store.proofs.Begun.{begun_first, none_begins}
use Rattle.span_store.proofs.Kept.{removed_in}
use Rattle.span_store.proofs.holdings.Holdings.remove.Given.{Over}
use Rattle.span_store.proofs.holdings.Holdings.remove.Goals.{After-take_out}
use Rattle.span_store.proofs.holdings.Holdings.remove.Goals as goal

last : (g : Over) (c : After-take_out g) → IsLastBegun c.self.inside.pieces.items c.args.first c.in-Some.at.piece c.in-Some.at.index
last g c =
    subst (λ (ps : List (List HeldSpan)). IsLastBegun ps c.args.first c.in-Some.at.piece c.in-Some.at.index)
    c.as_slice.ensures.value c.in-Some.ensures.found

made : (g : Over) (c : After-take_out g) →
    InOrder 0 (spans_in c.take_out.new.pieces.items)
    × IsRemoved (span_of g.S.Span.start g.S.Span.contents c.take_out.result) c.args.self.now
    (record { spans = spans_in c.take_out.new.pieces.items; room = length (spans_in c.take_out.new.pieces.items) + c.self.inside.free })
made g c =
    removed_in (spans_in c.self.inside.pieces.items) (spans_in c.take_out.new.pieces.items) c.args.self.now
    (span_of g.S.Span.start g.S.Span.contents c.take_out.result)
    (rank_of c.self.inside.pieces.items c.in-Some.at.piece c.in-Some.at.index) c.self.inside.free
    c.self.view_is c.self.invariant.order
    (at_within c.self.inside.pieces.items c.in-Some.at.piece c.in-Some.at.index (last g c).at)
    (sym c.take_out.ensures.span) c.take_out.ensures.spans

pub invariant_of-self : goal.invariant_of-self
invariant_of-self g c = record {
  order = (made g (goal.at.invariant_of-self g c).After-take_out).0;
  row = c.take_out.ensures.row;
  room = c.take_out.ensures.room c.self.inside.free c.self.invariant.room;
}

pub returns-clause-first : goal.returns-clause-first
returns-clause-first g c =
    ap (λ (s : HeldSpan). s.first) c.take_out.ensures.span
    ∙ begun_first c.self.inside.pieces.items c.args.first c.in-Some.at.piece c.in-Some.at.index c.self.invariant.order
    (last g (goal.at.returns-clause-first g c).After-take_out) (ap (λ (h : Held). begins h c.args.first) c.self.view_is ∙ c.requires)

pub returns-clause-removed : goal.returns-clause-removed
returns-clause-removed g c = (made g (goal.at.returns-clause-removed g c).After-take_out).1

pub returns-clause-sized : goal.returns-clause-sized
returns-clause-sized g c size all =
    sized_removed g.S.Span.tells size (span_of g.S.Span.start g.S.Span.contents c.take_out.result) c.args.self.now
    (record { spans = spans_in c.take_out.new.pieces.items; room = length (spans_in c.take_out.new.pieces.items) + c.self.inside.free })
    (made g (goal.at.returns-clause-sized g c).After-take_out).1 all

pub unreachable-requires : goal.unreachable-requires
unreachable-requires g c =
    none_begins (spans_in c.self.inside.pieces.items) c.args.first c.self.invariant.order
    (subst (λ (ps : List (List HeldSpan)). IsRank (spans_in ps) c.args.first 0) c.as_slice.ensures.value c.in_default.ensures.none)
    (ap (λ (h : Held). begins h c.args.first) c.self.view_is ∙ c.requires)
