use Rattle.std.proofs.Common.{◌≡◌, IsTrue, take}
use Rattle.std.specs.List.{AllByRecursion}
use Rattle.tree_model.specs.Range.{start_of}
use Rattle.tree_read.proofs.CoverLemmas.{AreChildren}
use Rattle.tree_read.specs.Cost.{AreKept, below}
use Rattle.tree_read.specs.Search.{EndsInside, Visits}
use Rattle.span_store.specs.Held.{bytes_on}
use Rattle.tree_read.proofs.range.level_below.Given as goal

abbrev pub invariant-loop-parent : goal.invariant-loop-parent
invariant-loop-parent g l = record {
  visits : Visits g.P.S.Span.tells (g.P.Port.meter l.fn.port).page (bytes_on l.held) l.parent-index (AreKept l.fn.cache l.nodes)
      l.fn.cache l.cache (g.P.Port.meter l.fn.port) (g.P.Port.meter l.port);
  told : IsTrue g.P.S.Span.tells → l.children.items ≡ below (bytes_on l.held) l.from l.to (take l.parent-index l.nodes);
  quiet : (g.P.Port.meter l.port).faults ≡ (g.P.Port.meter l.fn.port).faults;
  spelled : AreChildren l.from l.to (start_of l.nodes) (take l.parent-index l.nodes) l.children.items;
  fits : AllByRecursion EndsInside l.children.items;
}
