use Rattle.std.proofs.Common.{◌≡◌, ◌+◌, ◌≤◌, IsTrue, length}
use Rattle.tree_read.specs.Cost.{AreKept, CostsNothing, nodes_in_range}
use Rattle.tree_read.specs.Search.{KeepsNodes, Reaches, Uses, top as top_of}
use Rattle.tree_read.proofs.LevelLemmas.{IsLevel}
use Rattle.span_store.specs.Held.{bytes_on}
use Rattle.tree_read.proofs.range.entries.Given as goal

abbrev pub invariant-loop-level : goal.invariant-loop-level
invariant-loop-level g l = record {
  nodes : KeepsNodes g.P.S.Span.tells (g.P.Port.meter l.fn.port).page (bytes_on l.held) l.cache;
  uses : Uses (g.P.Port.meter l.fn.port) (g.P.Port.meter l.port);
  quiet : (g.P.Port.meter l.port).faults ≡ (g.P.Port.meter l.fn.port).faults;
  reaches : Reaches l.from l.to l.children.items;
  told : IsTrue g.P.S.Span.tells → IsLevel (bytes_on l.held) l.from l.to l.root.height l.root.page l.level l.children.items;
  few : IsTrue g.P.S.Span.tells
      → (g.P.Port.meter l.port).read + length (nodes_in_range (bytes_on l.held) l.from l.to l.level l.children.items)
      ≤ (g.P.Port.meter l.fn.port).read + length (nodes_in_range (bytes_on l.held) l.from l.to l.root.height (top_of l.root l.from l.to));
  cached : IsTrue g.P.S.Span.tells
      → AreKept l.fn.cache (nodes_in_range (bytes_on l.held) l.from l.to l.root.height (top_of l.root l.from l.to))
      → CostsNothing l.fn.cache l.cache (g.P.Port.meter l.fn.port) (g.P.Port.meter l.port)
      × AreKept l.fn.cache (nodes_in_range (bytes_on l.held) l.from l.to l.level l.children.items);
}

abbrev pub decreases-loop-level : goal.decreases-loop-level
decreases-loop-level g l = l.level
