-- What is left to name is named by what is left of the three lists.
use Rattle.std.proofs.Common.{◌≡◌, ◌≤◌, ◌++◌, length, map, drop}
use Rattle.layout_model.specs.Levels.{pair_of, on_pages, cut_into}
use Rattle.tree_splice.specs.Remade.{AreCounted}
use Rattle.tree_splice.proofs.RunLemmas.{total}
use Rattle.tree_splice.proofs.naming.push_names.Given as goal

abbrev pub invariant-loop-number : goal.invariant-loop-number
invariant-loop-number l = record {
  whole : total (drop l.number l.counts) ≤ length l.left;
  named : l.into.items ++ map pair_of (on_pages (drop l.number l.pages) (cut_into (drop l.number l.counts) l.left))
      ≡ l.fn.into.items ++ map pair_of (on_pages l.pages (cut_into l.counts l.pairs));
  wide : AreCounted (on_pages l.pages (cut_into l.counts l.pairs))
      → AreCounted (on_pages (drop l.number l.pages) (cut_into (drop l.number l.counts) l.left));
}
