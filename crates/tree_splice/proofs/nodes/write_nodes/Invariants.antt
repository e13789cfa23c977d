-- The nodes that were written so far stand on the pages from the first on, and the others are left.
use Rattle.std.proofs.Common.{◌≡◌, ◌≤◌, ◌++◌, IsTrue, List, length, take, drop}
use Rattle.std.specs.List.{AllByRecursion}
use Rattle.fault_count.specs.Counts.{Writes}
use Rattle.layout_model.specs.Levels.{PageNode}
use Rattle.tree_model.specs.Node.{room_of}
use Rattle.tree_splice.specs.Scratch.{IsPrepared}
use Rattle.tree_splice.specs.Fresh.{AreAllOf, AreSamePages, AreNodesWritten}
use Rattle.tree_splice.specs.Remade.{counts_of, row_pages}
use Rattle.tree_splice.specs.Way.{IsMade}
use Rattle.tree_splice.proofs.NameLemmas.{left_of}
use Rattle.tree_splice.proofs.RunLemmas.{total}
use Rattle.tree_splice.proofs.nodes.write_nodes.Given as goal

abbrev pub invariant-loop-number : goal.invariant-loop-number
invariant-loop-number g l = record {
  whole : total (drop l.number (counts_of l.nodes)) ≤ length l.left;
  fits : AllByRecursion (IsMade (room_of (g.P.Port.meter l.fn.port).page))
      (left_of (row_pages l.nodes) (counts_of l.nodes) l.left l.number);
  done : (first : List PageNode) × (length first ≡ l.number)
      × (l.nodes ≡ first ++ left_of (row_pages l.nodes) (counts_of l.nodes) l.left l.number)
      × (IsTrue g.P.S.Span.tells → AreNodesWritten l.level first (drop l.at l.pages.pages));
  before : take l.at l.pages.pages ≡ take l.at l.fn.pages.pages;
  same : AreSamePages l.fn.pages.pages l.pages.pages;
  sized : AreAllOf g.P.S.Span.tells (g.P.Port.meter l.fn.port).page l.pages.pages;
  prepared : IsPrepared (g.P.Port.meter l.fn.port).page l.scratch;
  writes : Writes l.number (g.P.Port.meter l.fn.port) (g.P.Port.meter l.port);
  quiet : (g.P.Port.meter l.port).faults ≡ (g.P.Port.meter l.fn.port).faults;
}
