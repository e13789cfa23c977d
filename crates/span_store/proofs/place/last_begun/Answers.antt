-- The piece that the page belongs to has the span, or no piece has one.
use Rattle.std.proofs.Common.{List, subst, arith}
use Rattle.span_store.specs.Held.{HeldSpan}
use Rattle.span_store.specs.Order.{IsRank}
use Rattle.span_store.specs.Pieces.{piece_at}
use Rattle.span_store.proofs.InPieces.{last_begun_is, rank_none}
use Rattle.span_store.proofs.Kept.{piece_read}
use Rattle.span_store.proofs.place.last_begun.Given.{Over}
use Rattle.span_store.proofs.place.last_begun.Goals.{After-rank-begun}
use Rattle.span_store.proofs.place.last_begun.Goals as goal

-- how many spans of the piece begin at the page or before it
begun : (g : Over) (c : After-rank-begun g) →
    IsRank (piece_at c.args.pieces.now c.piece_of-piece.result) c.args.page c.rank-begun.result
begun g c =
    subst (λ (p : List HeldSpan). IsRank p c.args.page c.rank-begun.result)
    (piece_read c.args.pieces.now c.piece_of-piece.result c.index-pieces-piece.result c.piece_of-piece.ensures.within
    c.index-pieces-piece.is)
    c.rank-begun.ensures

pub returns-then-begun-eq0-clause-none : goal.returns-then-begun-eq0-clause-none
returns-then-begun-eq0-clause-none g c =
    rank_none c.args.pieces.now c.args.page c.piece_of-piece.result c.rank-begun.result c.requires c.piece_of-piece.ensures
    (begun g (goal.at.returns-then-begun-eq0-clause-none g c).After-rank-begun) (omega (arith, c.if-begun-eq0.true))

pub returns-clause-found : goal.returns-clause-found
returns-clause-found g c =
    last_begun_is c.args.pieces.now c.args.page c.piece_of-piece.result c.rank-begun.result c.requires c.piece_of-piece.ensures
    (begun g (goal.at.returns-clause-found g c).After-rank-begun) (omega (arith, c.if-begun-eq0.false))
