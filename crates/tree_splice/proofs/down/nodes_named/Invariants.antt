use Rattle.std.proofs.Common.{◌≡◌, IsTrue, take}
use Rattle.std.specs.List.{AllByRecursion}
use Rattle.span_store.specs.Held.{bytes_on}
use Rattle.tree_splice.specs.Way.{IsSoundNode, named_on}
use Rattle.tree_splice.proofs.down.nodes_named.Given as goal
use Rattle.tree_read.specs.Search.{ReadsNodes}

abbrev pub invariant-loop-pair : goal.invariant-loop-pair
invariant-loop-pair g l = record {
  reads : ReadsNodes g.P.S.Span.tells (g.P.Port.meter l.fn.port).page (bytes_on l.held) l.cache
      (g.P.Port.meter l.fn.port) (g.P.Port.meter l.port);
  told : IsTrue g.P.S.Span.tells → l.nodes ≡ named_on (bytes_on l.held) (take l.pair-index l.pairs);
  sound : AllByRecursion IsSoundNode l.nodes;
  quiet : (g.P.Port.meter l.port).faults ≡ (g.P.Port.meter l.fn.port).faults;
}
