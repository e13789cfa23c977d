-- The spans of the piece are those of its vector.
use Rattle.std.proofs.Common.{List, ap, subst, ◌∙◌}
use Rattle.span_store.specs.Held.{HeldSpan, spans_of}
use Rattle.span_store.specs.Order.{IsRank}
use Rattle.span_store.proofs.piece.Piece.rank.Goals as goal

pub returns : goal.returns
returns g c =
    subst (λ (rows : List HeldSpan). IsRank rows c.args.page c.place_of.result)
    (ap (spans_of g.S.Span.start g.S.Span.contents) c.as_slice.ensures.value ∙ c.self.view_is) c.place_of.ensures
