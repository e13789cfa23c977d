-- The next span of the piece, or the first one of the next piece.
use Rattle.std.proofs.Common.{◌+◌, length, ap, arith}
use Rattle.span_store.proofs.InPieces.{filled_at, next_rank}
use Rattle.span_store.proofs.Kept.{piece_read}
use Rattle.span_store.proofs.place.after.Goals as goal

pub overflow_add-index : goal.overflow_add-index
overflow_add-index g c =
    let most = (filled_at c.args.pieces.now c.args.at.piece c.requires.filled c.requires.at.within).1 in
    omega (arith, most, c.requires.at.inner)

pub returns-clause-at : goal.returns-clause-at
returns-clause-at g c within = (filled_at c.args.pieces.now (c.args.at.piece + 1) c.requires.filled within).0

pub returns-clause-rank : goal.returns-clause-rank
returns-clause-rank g c =
    let here = piece_read c.args.pieces.now c.args.at.piece c.index-pieces-at.result c.requires.at.within c.index-pieces-at.is in
    next_rank c.args.pieces.now c.args.at.piece c.args.at.index c.requires.at
    (omega (arith, c.if-index-len.false, c.len.ensures, ap length here))
