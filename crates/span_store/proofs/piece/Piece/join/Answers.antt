-- The span is appended to the one at the index.
use Rattle.std.proofs.Common.{sym, ap, ◌∙◌, arith}
use Rattle.span_store.proofs.PieceSpans.{count_of, seen_at, seen_joined}
use Rattle.span_store.proofs.SpanLists.{end_of}
use Rattle.span_store.proofs.piece.Piece.join.Goals as goal

pub index_mut-requires : goal.index_mut-requires
index_mut-requires g c =
    let ok = c.self.inside.spans.ok.0 in
    omega (arith, ok, c.requires.within, count_of g.S.Span.start g.S.Span.contents c.self.inside.spans.items c.args.self.now c.self.view_is)

pub join-requires : goal.join-requires
join-requires g c =
    let here = seen_at g.S.Span.start g.S.Span.contents c.self.inside.spans.items c.args.self.now c.args.index c.index_mut.result.now
    c.self.view_is c.requires.within c.index_mut.ensures.value in
    c.requires.meets ∙ sym (ap end_of here)

pub returns : goal.returns
returns g c =
    seen_joined g.S.Span.start g.S.Span.contents c.self.inside.spans.items c.args.self.now c.args.index c.index_mut.result.now
    c.join.new.self c.args.next c.self.view_is c.requires.within c.index_mut.ensures.value c.join.ensures.first c.join.ensures.pages
