-- The span at an index.
use Rattle.std.proofs.Common.{arith}
use Rattle.span_store.proofs.PieceSpans.{count_of, seen_at}
use Rattle.span_store.proofs.piece.Piece.span.Goals as goal

pub index-requires : goal.index-requires
index-requires g c =
    let ok = c.self.inside.spans.ok.0 in
    omega (arith, ok, c.requires, count_of g.S.Span.start g.S.Span.contents c.self.inside.spans.items c.args.self.now c.self.view_is)

pub returns : goal.returns
returns g c =
    seen_at g.S.Span.start g.S.Span.contents c.self.inside.spans.items c.args.self.now c.args.index c.index.result.now c.self.view_is
    c.requires c.index.ensures
