use Rattle.std.proofs.Common.{◌≡◌, ◌+◌, ◌-◌, ◌≤◌, IsTrue, [], ◌∷◌}
use Rattle.tree_read.specs.Cost.{AreKept, nodes_in_range}
use Rattle.tree_read.specs.Search.{HasByte, Visits, top}
use Rattle.tree_read.proofs.LevelLemmas.{IsLevel}
use Rattle.span_store.specs.Held.{bytes_on}
use Rattle.tree_read.proofs.search.find.Given as goal

abbrev pub invariant-loop-level : goal.invariant-loop-level
invariant-loop-level g l = record {
  down : l.level ≤ l.root.height;
  visits : Visits g.P.S.Span.tells (g.P.Port.meter l.fn.port).page (bytes_on l.held) (l.root.height - l.level)
      (IsTrue g.P.S.Span.tells
      × AreKept l.fn.cache (nodes_in_range (bytes_on l.held) l.at (l.at + 1) l.root.height (top l.root l.at (l.at + 1))))
      l.fn.cache l.cache (g.P.Port.meter l.fn.port) (g.P.Port.meter l.port);
  quiet : (g.P.Port.meter l.port).faults ≡ (g.P.Port.meter l.fn.port).faults;
  here : HasByte l.at l.child;
  told : IsTrue g.P.S.Span.tells → IsLevel (bytes_on l.held) l.at (l.at + 1) l.root.height l.root.page l.level (l.child ∷ []);
  left : IsTrue g.P.S.Span.tells
      → AreKept l.fn.cache (nodes_in_range (bytes_on l.held) l.at (l.at + 1) l.root.height (top l.root l.at (l.at + 1)))
      → AreKept l.fn.cache (nodes_in_range (bytes_on l.held) l.at (l.at + 1) l.level (l.child ∷ []));
}

abbrev pub decreases-loop-level : goal.decreases-loop-level
decreases-loop-level g l = l.level
