-- The span before it in its piece, or the last one of the piece before.
use Rattle.std.proofs.Common.{◌-◌, ◌<◌, length, ap, ◌∙◌, arith}
use Rattle.span_store.proofs.InPieces.{before_first, filled_at}
use Rattle.span_store.proofs.Kept.{piece_read}
use Rattle.span_store.proofs.place.before.Goals as goal

pub overflow_sub-result-2 : goal.overflow_sub-result-2
overflow_sub-result-2 g c =
    let within : c.args.at.piece - 1 < length c.args.pieces.now = omega (arith, c.requires.at.within) in
    let here = piece_read c.args.pieces.now (c.args.at.piece - 1) c.index-pieces-piece.result within c.index-pieces-piece.is in
    let some = (filled_at c.args.pieces.now (c.args.at.piece - 1) c.requires.filled within).0 in
    omega (arith, some, ap length here, c.len.ensures)

pub returns-clause-some : goal.returns-clause-some
returns-clause-some g c =
    let within : c.args.at.piece - 1 < length c.args.pieces.now = omega (arith, c.requires.at.within) in
    let here = piece_read c.args.pieces.now (c.args.at.piece - 1) c.index-pieces-piece.result within c.index-pieces-piece.is in
    before_first c.args.pieces.now c.args.at.piece c.args.at.index c.len.result c.requires.filled c.requires.at
    (omega arith) (omega arith) (c.len.ensures ∙ ap length here)
