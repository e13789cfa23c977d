-- The span stands in its place.
use Rattle.std.proofs.Common.{◌≡◌, ◌+◌, ◌-◌, length, subst, arith}
use Rattle.span_store.specs.Held.{span_of}
use Rattle.span_store.specs.Order.{InOrder}
use Rattle.span_store.specs.Pieces.{AreEnough, load, spans_in}
use Rattle.span_store.specs.Calls.{IsAdded}
use Rattle.span_store.proofs.InPieces.{spare_some}
use Rattle.span_store.proofs.Holds.{sized_added}
use Rattle.span_store.proofs.Kept.{added_in, free_is}
use Rattle.span_store.proofs.holdings.Holdings.add.Given.{Over}
use Rattle.span_store.proofs.holdings.Holdings.add.Goals.{After-put_in}
use Rattle.span_store.proofs.holdings.Holdings.add.Goals as goal

-- there is room for one
free : (g : Over) (c : After-put_in g) → c.self.inside.free ≡ c.self.inside.free - 1 + 1
free g c =
    let all = free_is (spans_in c.self.inside.pieces.items) c.args.self.now c.self.inside.free c.self.view_is in
    omega (arith, all, c.requires.room)

made : (g : Over) (c : After-put_in g) →
    InOrder 0 (spans_in c.put_in.new.pieces.items) × IsAdded (span_of g.S.Span.start g.S.Span.contents c.args.span) c.args.self.now
    (record { spans = spans_in c.put_in.new.pieces.items; room = length (spans_in c.put_in.new.pieces.items) + (c.self.inside.free - 1) })
made g c =
    added_in (spans_in c.self.inside.pieces.items) (spans_in c.put_in.new.pieces.items) c.args.self.now
    (span_of g.S.Span.start g.S.Span.contents c.args.span) c.self.inside.free (c.self.inside.free - 1)
    c.self.view_is c.self.invariant.order c.put_in.ensures.spans c.pages-pages.ensures.some c.requires.apart (free g c)

pub put_in-requires-clause-some : goal.put_in-requires-clause-some
put_in-requires-clause-some g c =
    let all = free_is (spans_in c.self.inside.pieces.items) c.args.self.now c.self.inside.free c.self.view_is in
    let free : c.self.inside.free ≡ c.self.inside.free - 1 + 1 = omega (arith, all, c.requires.room) in
    spare_some (length c.self.inside.spare.items) (load c.self.inside.pieces.items) (c.self.inside.free - 1)
    (subst (AreEnough (length c.self.inside.spare.items) (load c.self.inside.pieces.items)) free c.self.invariant.room)

pub invariant_of-self : goal.invariant_of-self
invariant_of-self g c =
    let at = (goal.at.invariant_of-self g c).After-put_in in
    record {
      order = (made g at).0;
      row = c.put_in.ensures.row;
      room = c.put_in.ensures.room (c.self.inside.free - 1)
          (subst (AreEnough (length c.self.inside.spare.items) (load c.self.inside.pieces.items)) (free g at) c.self.invariant.room);
    }

pub returns-clause-added : goal.returns-clause-added
returns-clause-added g c = (made g (goal.at.returns-clause-added g c).After-put_in).1

pub returns-clause-sized : goal.returns-clause-sized
returns-clause-sized g c size sized all =
    sized_added g.S.Span.tells size (span_of g.S.Span.start g.S.Span.contents c.args.span) c.args.self.now
    (record { spans = spans_in c.put_in.new.pieces.items; room = length (spans_in c.put_in.new.pieces.items) + (c.self.inside.free - 1) })
    (made g (goal.at.returns-clause-sized g c).After-put_in).1 sized all
