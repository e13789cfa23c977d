-- The span at the index is taken out of the vector.
use Rattle.std.proofs.Common.{arith}
use Rattle.span_store.proofs.PieceSpans.{count_of, seen_at, seen_removed}
use Rattle.span_store.proofs.piece.Piece.remove.Goals as goal

pub remove-requires : goal.remove-requires
remove-requires g c =
    let ok = c.self.inside.spans.ok.0 in
    omega (arith, ok, c.requires, count_of g.S.Span.start g.S.Span.contents c.self.inside.spans.items c.args.self.now c.self.view_is)

pub returns-clause-span : goal.returns-clause-span
returns-clause-span g c =
    seen_at g.S.Span.start g.S.Span.contents c.self.inside.spans.items c.args.self.now c.args.index c.remove.result
    c.self.view_is c.requires c.remove.ensures.value

pub returns-clause-rest : goal.returns-clause-rest
returns-clause-rest g c =
    seen_removed g.S.Span.start g.S.Span.contents c.self.inside.spans.items c.remove.new.self.items c.args.self.now c.args.index
    c.self.view_is c.remove.ensures.by_index.2
