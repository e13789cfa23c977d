-- The working version of an object as pages show it, and a change that can be made of it.
use Rattle.std.specs.Prelude.{◌≡◌, ℕ, ◌+◌, ◌*◌, ◌^◌, ◌<◌, ◌≤◌, true, IsTrue, Some, List}
use Rattle.geometry_model.specs.Numbers.{Numbers, space_pages}
use Rattle.tree_model.specs.declared.entry.Pair.{Pair}
use Rattle.tree_model.specs.Tree.{Pages, IsTreeOf, entries_of}
use Rattle.layout_model.specs.declared.change.Change.{Change}
use Rattle.layout_model.specs.Layout.{Tree}
use Rattle.moment_model.specs.Version.{IsGood, version_uses}
use Rattle.change_laws.specs.Tail.{IsTail}
use Rattle.tree_pages.specs.Levels.{levels_at}
use Rattle.span_store.specs.Held.{Held, bytes_on, has}
use Rattle.object_plan.specs.declared.working_tree.WorkingTree.{WorkingTree}

-- the tree as levels, and its entries
abbrev pub tree_on : Pages → WorkingTree → Tree
tree_on at w = record { levels = levels_at at w.root; threshold = w.threshold }

abbrev pub entries_on : Pages → WorkingTree → List Pair
entries_on at w = entries_of at w.root.height w.root.page

-- The change lies within the object and removes or brings something, an append at its end; and
-- the lengths fit in 64 bits, with room to add two of them. The threshold is one of the store.
pub record CanChange (n : Numbers) (w : WorkingTree) (change : Change) : Type 0 where
  pub within : change.at + change.removed ≤ w.root.length
  pub some : 0 < change.removed + change.added
  pub at_end : change.appends ≡ true → (change.at ≡ w.root.length) × (change.removed ≡ 0)
  pub fits : w.root.length + change.added < 2 ^ 63
  pub threshold_low : 1 ≤ w.threshold
  pub threshold_high : 2 * w.threshold ≤ space_pages n

-- The pages are told: a good tree of the store stands there, on pages that are held, with its spare
-- behind its last segment.
pub record IsToldWorking (n : Numbers) (held : Held) (w : WorkingTree) : Type 0 where
  pub tree : IsTreeOf n (bytes_on held) w.root (entries_on (bytes_on held) w)
  pub good : IsGood n (tree_on (bytes_on held) w)
  pub tail : IsTail n (Some (tree_on (bytes_on held) w)) w.spare
  pub owned : (q : ℕ) → 0 < version_uses n q (Some (tree_on (bytes_on held) w)) →
      IsTrue (has held q)
