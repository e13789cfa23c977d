-- The nodes that were kept so far are right, and those that are left are still to be kept.
use Rattle.std.proofs.Common.{◌≡◌, ◌≤◌, Bool, ℕ, IsTrue, length, drop}
use Rattle.std.specs.List.{AllByRecursion}
use Rattle.tree_model.specs.Node.{NodeBytes, room_of}
use Rattle.tree_model.specs.Tree.{Pages}
use Rattle.tree_read.specs.Search.{KeepsNodes}
use Rattle.tree_splice.specs.Remade.{counts_of, row_pages}
use Rattle.tree_splice.specs.Way.{IsMade}
use Rattle.tree_splice.proofs.NameLemmas.{left_of}
use Rattle.tree_splice.proofs.RunLemmas.{total}
use Rattle.tree_splice.proofs.nodes.keep_nodes.Given as goal

abbrev pub invariant-loop-number : goal.invariant-loop-number
invariant-loop-number l = record {
  whole : total (drop l.number (counts_of l.nodes)) ≤ length l.left;
  fits : AllByRecursion (IsMade l.fn.node.pairs.room) (left_of (row_pages l.nodes) (counts_of l.nodes) l.left l.number);
  room : l.node.pairs.room ≡ l.fn.node.pairs.room;
  kept : (told : Bool) (size : ℕ) (at : Pages) → KeepsNodes told size at l.fn.cache
      → AllByRecursion (IsMade (room_of size)) l.nodes
      → (IsTrue told → AllByRecursion (λ n. NodeBytes (at n.page) l.level n.pairs) l.nodes)
      → KeepsNodes told size at l.cache;
  left : (told : Bool) (size : ℕ) (at : Pages) → AllByRecursion (IsMade (room_of size)) l.nodes
      → (IsTrue told → AllByRecursion (λ n. NodeBytes (at n.page) l.level n.pairs) l.nodes)
      → AllByRecursion (IsMade (room_of size)) (left_of (row_pages l.nodes) (counts_of l.nodes) l.left l.number)
      × (IsTrue told → AllByRecursion (λ n. NodeBytes (at n.page) l.level n.pairs)
      (left_of (row_pages l.nodes) (counts_of l.nodes) l.left l.number));
}
