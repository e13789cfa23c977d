-- The span at the index is cut.
use Rattle.std.proofs.Common.{List, length, ap, ◌∙◌, arith}
use Rattle.span_store.specs.Held.{HeldSpan}
use Rattle.std.proofs.Common.{get_or}
use Rattle.span_store.specs.Order.{no_span, with_cut}
use Rattle.span_store.proofs.PieceSpans.{count_of}
use Rattle.span_store.proofs.piece.Piece.cut.Goals as goal

pub cut-requires-clause-within : goal.cut-requires-clause-within
cut-requires-clause-within g c =
    let ok = c.self.inside.spans.ok.0 in
    omega (arith, ok, c.requires.within, count_of g.S.Span.start g.S.Span.contents c.self.inside.spans.items c.args.self.now c.self.view_is)

pub cut-requires-clause-fewer : goal.cut-requires-clause-fewer
cut-requires-clause-fewer g c =
    let long = ap (λ (rows : List HeldSpan). length (get_or rows c.args.index no_span).pages) c.self.view_is in
    omega (arith, c.requires.fewer, long)

pub cut-requires-clause-room : goal.cut-requires-clause-room
cut-requires-clause-room g c =
    let ok = c.self.inside.spans.ok.0 in
    omega (
      arith,
      ok,
      c.requires.room,
      c.self.invariant,
      count_of g.S.Span.start g.S.Span.contents c.self.inside.spans.items c.args.self.now c.self.view_is,
    )

pub returns : goal.returns
returns g c = c.cut.ensures.cut ∙ ap (λ (rows : List HeldSpan). with_cut rows c.args.index c.args.n) c.self.view_is
