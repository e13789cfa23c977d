-- The spans behind the first 64 stand in the other vector.
use Rattle.std.proofs.Common.{arith}
use Rattle.span_store.proofs.PieceSpans.{count_of, seen_back, seen_front, seen_none}
use Rattle.span_store.proofs.piece.Piece.halve.Goals as goal

pub move_back-requires-clause-within : goal.move_back-requires-clause-within
move_back-requires-clause-within g c =
    let ok = c.self.inside.spans.ok.0 in
    omega (arith, ok, c.requires.some, count_of g.S.Span.start g.S.Span.contents c.self.inside.spans.items c.args.self.now c.self.view_is)

pub move_back-requires-clause-empty : goal.move_back-requires-clause-empty
move_back-requires-clause-empty g c =
    seen_none g.S.Span.start g.S.Span.contents c.back.inside.spans.items c.args.back.now c.back.view_is c.requires.empty

pub move_back-requires-clause-room : goal.move_back-requires-clause-room
move_back-requires-clause-room g c =
    let ok = c.self.inside.spans.ok.0 in
    omega (
      arith,
      ok,
      c.requires.most,
      c.back.invariant,
      count_of g.S.Span.start g.S.Span.contents c.self.inside.spans.items c.args.self.now c.self.view_is,
    )

pub returns-clause-front : goal.returns-clause-front
returns-clause-front g c =
    seen_front g.S.Span.start g.S.Span.contents c.self.inside.spans.items c.move_back.new.from.items c.args.self.now 64
    c.self.view_is c.move_back.ensures.front

pub returns-clause-back : goal.returns-clause-back
returns-clause-back g c =
    seen_back g.S.Span.start g.S.Span.contents c.self.inside.spans.items c.move_back.new.to.items c.args.self.now 64
    c.self.view_is c.move_back.ensures.back
