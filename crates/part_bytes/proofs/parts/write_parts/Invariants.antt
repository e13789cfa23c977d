use Rattle.std.proofs.Common.{drop}
use Rattle.part_bytes.proofs.PartsLemmas.{IsPutting}
use Rattle.part_bytes.proofs.parts.write_parts.Given as goal

-- the parts before this one are written
abbrev pub invariant-loop-part : goal.invariant-loop-part
invariant-loop-part g l = IsPutting g.P.S.Span.tells (g.P.Port.meter l.fn.port).page l.payload l.parts (drop l.part-index l.parts)
    l.fn.counts l.counts l.fn.runs l.runs l.fn.held l.held (g.P.Port.meter l.fn.port) (g.P.Port.meter l.port)
