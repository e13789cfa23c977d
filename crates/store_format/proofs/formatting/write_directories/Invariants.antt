use Rattle.std.proofs.Common.{◌≡◌, IsTrue}
use Rattle.fault_count.specs.Counts.{IsUsed}
use Rattle.store_format.specs.Rows.{row_page, KeepsShape}
use Rattle.store_format.specs.Writing.{AreDirectories}
use Rattle.store_format.specs.Blank.{blank_directory}
use Rattle.store_format.proofs.formatting.write_directories.Given as goal

-- the directories of the spaces before this one stand
abbrev pub invariant-loop-s : goal.invariant-loop-s
invariant-loop-s g l = record {
  stand : IsTrue g.P.S.Span.tells → AreDirectories l.geometry (blank_directory l.geometry) l.s
      (row_page (g.P.S.Span.contents l.fn.span)) (row_page (g.P.S.Span.contents l.span));
  place : g.P.S.Span.start l.span ≡ g.P.S.Span.start l.fn.span;
  shape : KeepsShape g.P.S.Span.tells l.geometry.page (g.P.S.Span.contents l.fn.span) (g.P.S.Span.contents l.span);
  used : IsUsed (g.P.Port.meter l.fn.port) (g.P.Port.meter l.port);
  still : (g.P.Port.meter l.port).faults ≡ (g.P.Port.meter l.fn.port).faults;
}
