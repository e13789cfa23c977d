-- The span stands before the one at the index.
use Rattle.std.proofs.Common.{arith}
use Rattle.span_store.proofs.PieceSpans.{count_of, seen_put}
use Rattle.span_store.proofs.piece.Piece.add.Goals as goal

pub put-requires-clause-within : goal.put-requires-clause-within
put-requires-clause-within g c =
    let ok = c.self.inside.spans.ok.0 in
    omega (arith, ok, c.requires.within, count_of g.S.Span.start g.S.Span.contents c.self.inside.spans.items c.args.self.now c.self.view_is)

pub put-requires-clause-room : goal.put-requires-clause-room
put-requires-clause-room g c =
    let ok = c.self.inside.spans.ok.0 in
    omega (
      arith,
      ok,
      c.requires.room,
      c.self.invariant,
      count_of g.S.Span.start g.S.Span.contents c.self.inside.spans.items c.args.self.now c.self.view_is,
    )

pub returns : goal.returns
returns g c =
    seen_put g.S.Span.start g.S.Span.contents c.self.inside.spans.items c.put.new.spans.items c.args.self.now c.args.index c.args.span
    c.self.view_is c.put.ensures.items
