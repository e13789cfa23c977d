use Rattle.std.proofs.Common.{length, drop}
use Rattle.part_bytes.proofs.GatherLemmas.{IsGathering}
use Rattle.part_bytes.proofs.gathering.gather.Given as goal

-- the pieces before this one are gathered
abbrev pub invariant-loop-piece : goal.invariant-loop-piece
invariant-loop-piece g l = IsGathering g.P.S.Span.tells (g.P.Port.meter l.fn.port).page l.held l.payload l.pieces
    (drop l.piece-index l.pieces) (length l.fn.out) l.done l.out (g.P.Port.meter l.fn.port) (g.P.Port.meter l.port)
