-- The span that has the page is cut there, once there is room for one more.
use Rattle.std.proofs.Common.{◌≡◌, ◌+◌, ◌-◌, ◌≤◌, false, List, length, sym, ap, subst, ◌∙◌, arith}
use Rattle.span_store.specs.Held.{Held, HeldSpan, begins, begins_in, has}
use Rattle.span_store.specs.Order.{IsRank, first_at}
use Rattle.span_store.specs.Pieces.{AreEnough, IsLastBegun, load, rank_of, spans_in}
use Rattle.span_store.proofs.Holds.{sized_cut}
use Rattle.span_store.proofs.Begun.{begins_not, begun_first, none_held}
use Rattle.span_store.proofs.Kept.{IsCutMore, cut_more}
use Rattle.span_store.proofs.holdings.Holdings.cut_at.Given.{Over}
use Rattle.span_store.proofs.holdings.Holdings.cut_at.Goals.{After-cut_in, After-first}
use Rattle.span_store.proofs.holdings.Holdings.cut_at.Goals as goal

-- the last span that begins at the page or before it, and its first page
last : (g : Over) (c : After-first g) → IsLastBegun c.self.inside.pieces.items c.args.page c.in-Some.at.piece c.in-Some.at.index
last g c =
    subst (λ (ps : List (List HeldSpan)). IsLastBegun ps c.args.page c.in-Some.at.piece c.in-Some.at.index)
    c.as_slice.ensures.value c.in-Some.ensures.found

begin : (g : Over) (c : After-first g) →
    c.first.result ≡ first_at (spans_in c.self.inside.pieces.items)
    (rank_of c.self.inside.pieces.items c.in-Some.at.piece c.in-Some.at.index)
begin g c =
    c.first.ensures ∙ ap (λ (s : HeldSpan). s.first) c.span_at.ensures
    ∙ ap (λ (ps : List (List HeldSpan)). first_at (spans_in ps) (rank_of ps c.in-Some.at.piece c.in-Some.at.index))
    c.as_slice-2.ensures.value

-- the cut, of the spans as they are once there is room
made : (g : Over) (c : After-cut_in g) → length c.reserve.new.self.spans + 1 ≤ c.reserve.new.self.room →
    IsCutMore (spans_in c.cut_in.new.pieces.items) c.args.self.now c.args.page c.self-2.inside.free
made g c room =
    cut_more (spans_in c.self-2.inside.pieces.items) (spans_in c.cut_in.new.pieces.items) c.args.self.now c.reserve.new.self
    c.args.page c.self-2.inside.free c.self-2.view_is c.reserve.ensures.spans c.reserve.ensures.kept room
    c.self-2.invariant.order c.cut_in.ensures.spans

pub unreachable-requires : goal.unreachable-requires
unreachable-requires g c =
    none_held (spans_in c.self.inside.pieces.items) c.args.page c.self.invariant.order
    (subst (λ (ps : List (List HeldSpan)). IsRank (spans_in ps) c.args.page 0) c.as_slice.ensures.value c.in_default.ensures.none)
    (ap (λ (h : Held). has h c.args.page) c.self.view_is ∙ c.requires)

pub returns-in_err-reserve-clause-already : goal.returns-in_err-reserve-clause-already
returns-in_err-reserve-clause-already g c begun =
    let at = (goal.at.returns-in_err-reserve-clause-already g c).After-first in
    absurd (c.if-first-page.false (begin g at ∙ begun_first c.self.inside.pieces.items c.args.page c.in-Some.at.piece c.in-Some.at.index
    c.self.invariant.order (last g at) (ap (λ (h : Held). begins h c.args.page) c.self.view_is ∙ begun)))

pub cut_in-requires-clause-inner : goal.cut_in-requires-clause-inner
cut_in-requires-clause-inner g c =
    let at = (goal.at.cut_in-requires-clause-inner g c).After-first in
    let same : spans_in c.self.inside.pieces.items ≡ spans_in c.self-2.inside.pieces.items =
    ap (λ (h : Held). h.spans) c.self.view_is ∙ sym c.reserve.ensures.spans ∙ sym (ap (λ (h : Held). h.spans) c.self-2.view_is) in
    subst (λ (rows : List HeldSpan). begins_in rows c.args.page ≡ false) same
    (begins_not c.self.inside.pieces.items c.args.page c.in-Some.at.piece c.in-Some.at.index c.self.invariant.order (last g at)
    (λ e. c.if-first-page.false (begin g at ∙ e)))

pub invariant_of-self : goal.invariant_of-self
invariant_of-self g c =
    let its = made g (goal.at.invariant_of-self g c).After-cut_in c.in_ok-reserve.ensures.room in
    let one : c.self-2.inside.free ≡ c.self-2.inside.free - 1 + 1 = omega (arith, its.some) in
    record {
      order = its.order;
      row = c.cut_in.ensures.row;
      room = c.cut_in.ensures.room (c.self-2.inside.free - 1)
          (subst (AreEnough (length c.self-2.inside.spare.items) (load c.self-2.inside.pieces.items)) one c.self-2.invariant.room);
    }

pub returns-clause-cut : goal.returns-clause-cut
returns-clause-cut g c = (made g (goal.at.returns-clause-cut g c).After-cut_in c.in_ok-reserve.ensures.room).cut

pub returns-clause-sized : goal.returns-clause-sized
returns-clause-sized g c size all =
    sized_cut g.S.Span.tells size c.args.page c.args.self.now
    (record { spans = spans_in c.cut_in.new.pieces.items; room = length (spans_in c.cut_in.new.pieces.items) + (c.self-2.inside.free - 1) })
    (made g (goal.at.returns-clause-sized g c).After-cut_in c.in_ok-reserve.ensures.room).cut all

pub returns-clause-room : goal.returns-clause-room
returns-clause-room g c = (made g (goal.at.returns-clause-room g c).After-cut_in c.in_ok-reserve.ensures.room).room
