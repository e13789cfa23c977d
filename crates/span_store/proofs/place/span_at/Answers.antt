-- The span of the piece is the one of its rank.
use Rattle.std.proofs.Common.{List, get_or, sym, ap, ◌∙◌}
use Rattle.span_store.specs.Held.{HeldSpan}
use Rattle.span_store.specs.Order.{no_span}
use Rattle.span_store.proofs.InPieces.{at_rank}
use Rattle.span_store.proofs.Kept.{piece_read}
use Rattle.span_store.proofs.place.span_at.Goals as goal

pub returns : goal.returns
returns g c =
    c.span.ensures
    ∙ ap (λ (p : List HeldSpan). get_or p c.args.at.index no_span)
    (piece_read c.args.pieces.now c.args.at.piece c.index-pieces-at.result c.requires.within c.index-pieces-at.is)
    ∙ sym (at_rank c.args.pieces.now c.args.at.piece c.args.at.index c.requires)
