-- The two spans that meet are one.
use Rattle.std.proofs.Common.{◌≡◌, ℕ, ◌+◌, List, length, sym, ap, subst, ◌∙◌}
use Rattle.std.proofs.lemmas.Bool.{false≢true}
use Rattle.span_store.specs.Held.{Held, HeldSpan, is_border, is_border_in}
use Rattle.span_store.specs.Order.{InOrder}
use Rattle.span_store.specs.Pieces.{IsBorderAt, rank_of, spans_in}
use Rattle.span_store.specs.Calls.{IsJoined}
use Rattle.span_store.proofs.Joins.{border_held, sized_joined}
use Rattle.span_store.proofs.Borders.{border_meets}
use Rattle.span_store.proofs.Kept.{joined_in}
use Rattle.span_store.proofs.holdings.Holdings.join_at.Given.{Over}
use Rattle.span_store.proofs.holdings.Holdings.join_at.Goals.{After-join_in}
use Rattle.span_store.proofs.holdings.Holdings.join_at.Goals as goal

-- the border among the pieces of the holdings
met : (seen ps : List (List HeldSpan)) (page i j k l : ℕ) → seen ≡ ps → IsBorderAt seen page i j k l → IsBorderAt ps page i j k l
met seen ps page i j k l same found = subst (λ (qs : List (List HeldSpan)). IsBorderAt qs page i j k l) same found

made : (g : Over) (c : After-join_in g) →
    InOrder 0 (spans_in c.join_in.new.pieces.items) × IsJoined c.args.page c.args.self.now
    (record { spans = spans_in c.join_in.new.pieces.items; room = length (spans_in c.join_in.new.pieces.items) + c.self.inside.free })
made g c =
    joined_in (spans_in c.self.inside.pieces.items) (spans_in c.join_in.new.pieces.items) c.args.self.now
    (rank_of c.self.inside.pieces.items c.in-Some.border.front.piece c.in-Some.border.front.index) c.self.inside.free c.args.page
    c.self.view_is c.self.invariant.order (met c.as_slice.result.now c.self.inside.pieces.items c.args.page c.in-Some.border.front.piece
    c.in-Some.border.front.index c.in-Some.border.next.piece c.in-Some.border.next.index c.as_slice.ensures.value
    c.in-Some.ensures.found).border c.join_in.ensures.spans

pub returns-in_default-clause-joined : goal.returns-in_default-clause-joined
returns-in_default-clause-joined g c = λ h.
    let none = sym (ap (λ (ps : List (List HeldSpan)). is_border_in (spans_in ps) c.args.page) c.as_slice.ensures.value)
    ∙ c.in_default.ensures.none in
    absurd (false≢true (sym none ∙ (ap (λ (h : Held). is_border h c.args.page) c.self.view_is ∙ h)))

pub join_in-requires-clause-next : goal.join_in-requires-clause-next
join_in-requires-clause-next g c = (met c.as_slice.result.now c.self.inside.pieces.items c.args.page c.in-Some.border.front.piece
    c.in-Some.border.front.index c.in-Some.border.next.piece c.in-Some.border.next.index c.as_slice.ensures.value
    c.in-Some.ensures.found).next

pub join_in-requires-clause-before : goal.join_in-requires-clause-before
join_in-requires-clause-before g c = (met c.as_slice.result.now c.self.inside.pieces.items c.args.page c.in-Some.border.front.piece
    c.in-Some.border.front.index c.in-Some.border.next.piece c.in-Some.border.next.index c.as_slice.ensures.value
    c.in-Some.ensures.found).before

pub join_in-requires-clause-meets : goal.join_in-requires-clause-meets
join_in-requires-clause-meets g c =
    border_meets c.self.inside.pieces.items c.args.page c.in-Some.border.front.piece c.in-Some.border.front.index
    c.in-Some.border.next.piece c.in-Some.border.next.index (met c.as_slice.result.now c.self.inside.pieces.items c.args.page
    c.in-Some.border.front.piece
    c.in-Some.border.front.index c.in-Some.border.next.piece c.in-Some.border.next.index c.as_slice.ensures.value c.in-Some.ensures.found)

pub invariant_of-self : goal.invariant_of-self
invariant_of-self g c = record {
  order = (made g (goal.at.invariant_of-self g c).After-join_in).0;
  row = c.join_in.ensures.row;
  room = c.join_in.ensures.room c.self.inside.free c.self.invariant.room;
}

pub returns-clause-joined : goal.returns-clause-joined
returns-clause-joined g c = λ _. (made g (goal.at.returns-clause-joined g c).After-join_in).1

pub returns-clause-unchanged : goal.returns-clause-unchanged
returns-clause-unchanged g c = λ no.
    absurd (false≢true (sym no ∙ border_held (spans_in c.self.inside.pieces.items) c.args.self.now
    (rank_of c.self.inside.pieces.items c.in-Some.border.front.piece c.in-Some.border.front.index)
    (length (spans_in c.self.inside.pieces.items) + c.self.inside.free) c.args.page c.self.view_is c.self.invariant.order
    (met c.as_slice.result.now c.self.inside.pieces.items c.args.page c.in-Some.border.front.piece
    c.in-Some.border.front.index c.in-Some.border.next.piece c.in-Some.border.next.index c.as_slice.ensures.value
    c.in-Some.ensures.found).border))

pub returns-clause-sized : goal.returns-clause-sized
returns-clause-sized g c size all =
    sized_joined g.S.Span.tells size c.args.page c.args.self.now
    (record { spans = spans_in c.join_in.new.pieces.items; room = length (spans_in c.join_in.new.pieces.items) + c.self.inside.free })
    (made g (goal.at.returns-clause-sized g c).After-join_in).1 all
