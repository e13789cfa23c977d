use Rattle.std.proofs.Common.{drop}
use Rattle.part_bytes.proofs.WriteLemmas.{IsWriting}
use Rattle.part_bytes.proofs.writing.write_on.Given as goal

-- the runs before this one are written
abbrev pub invariant-loop-run : goal.invariant-loop-run
invariant-loop-run g l = IsWriting g.P.S.Span.tells (g.P.Port.meter l.fn.port).page l.runs (drop l.run-index l.runs) l.bytes l.from
    l.fn.held l.held (g.P.Port.meter l.fn.port) (g.P.Port.meter l.port)
