-- Each piece has a first span.
use Rattle.std.proofs.Common.{◌+◌, ◌-◌, ◌/◌, ◌<◌, length, ap, arith}
use Rattle.span_store.proofs.Kept.{piece_read}
use Rattle.span_store.proofs.InPieces.{filled_at}
use Rattle.span_store.proofs.place.piece_of.Goals as goal

pub first-requires : goal.first-requires
first-requires g c =
    let middle = c.loop-low.low + (c.loop-low.high - c.loop-low.low) / 2 in
    let within : middle < length c.args.pieces.now = omega (arith, c.loop-low.invariant.within, c.loop-low-test.true) in
    let here = piece_read c.args.pieces.now middle c.index-pieces-middle.result within c.index-pieces-middle.is in
    let some = (filled_at c.args.pieces.now middle c.requires.filled within).0 in
    omega (arith, some, ap length here)
