use Rattle.std.proofs.Common.{◌-◌, length}
use Rattle.tree_model.specs.Range.{pairs_of, start_of}
use Rattle.span_store.specs.Held.{bytes_on}
use Rattle.seg_bytes.proofs.Reading.{IsReading}
use Rattle.seg_bytes.proofs.read.read_bytes.Given as goal

abbrev pub invariant-loop-segment : goal.invariant-loop-segment
invariant-loop-segment g l = IsReading g.P.S.Span.tells (bytes_on l.held)
    (g.P.Port.meter l.fn.port).page (l.at - start_of l.placed) (length l.fn.out) (pairs_of l.placed)
    l.segment-index l.done l.skip l.out (g.P.Port.meter l.fn.port) (g.P.Port.meter l.port)
