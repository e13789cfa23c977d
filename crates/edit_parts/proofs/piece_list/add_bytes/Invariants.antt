use Rattle.std.proofs.Common.{◌≡◌, ◌+◌, ◌-◌, ◌^◌, min, take}
use Rattle.edit_parts.specs.Pieces.{pieces_bytes}
use Rattle.edit_parts.proofs.piece_list.add_bytes.Given as goal

abbrev pub invariant-loop-piece : goal.invariant-loop-piece
invariant-loop-piece l = l.bytes ≡ min (l.fn.bytes + pieces_bytes (take l.piece-index l.pieces)) (2 ^ 64 - 1)
