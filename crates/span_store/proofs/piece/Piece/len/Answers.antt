-- It has as many spans as its vector.
use Rattle.std.proofs.Common.{arith}
use Rattle.span_store.proofs.PieceSpans.{count_of}
use Rattle.span_store.proofs.piece.Piece.len.Goals as goal

pub returns : goal.returns
returns g c =
    let ok = c.self.inside.spans.ok.0 in
    omega (arith, ok, count_of g.S.Span.start g.S.Span.contents c.self.inside.spans.items c.args.self.now c.self.view_is)
