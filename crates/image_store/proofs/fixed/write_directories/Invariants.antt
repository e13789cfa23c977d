use Rattle.std.proofs.Common.{◌≡◌}
use Rattle.fault_count.specs.Counts.{IsUsed}
use Rattle.span_store.specs.Held.{spans_of}
use Rattle.image_store.specs.Closing.{AreSpansWritten, directory_of}
use Rattle.image_store.proofs.fixed.write_directories.Given as goal

-- the directories of the spaces before this one stand
abbrev pub invariant-loop-s : goal.invariant-loop-s
invariant-loop-s g l = record {
  stand : AreSpansWritten g.P.S.Span.tells (g.P.Port.meter l.fn.port).page (directory_of l.spaces) l.s
      (spans_of g.P.S.Span.start g.P.S.Span.contents l.fn.directories) (spans_of g.P.S.Span.start g.P.S.Span.contents l.directories);
  used : IsUsed (g.P.Port.meter l.fn.port) (g.P.Port.meter l.port);
  still : (g.P.Port.meter l.port).faults ≡ (g.P.Port.meter l.fn.port).faults;
}
