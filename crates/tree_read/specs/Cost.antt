-- The nodes that a search in a range reads, and those that cost no page.
use Rattle.std.specs.Prelude.{◌≡◌, ℕ, zero, suc, List, [], ◌++◌, IsSome}
use Rattle.std.specs.List.{AllByRecursion, flat_map}
use Rattle.fault_count.specs.Counts.{Meter}
use Rattle.page_cache.specs.Kept.{KeptNodes, KeepsSame, kept}
use Rattle.tree_model.specs.declared.entry.Placed.{Placed}
use Rattle.tree_model.specs.Tree.{Pages, pairs_on}
use Rattle.tree_model.specs.Range.{in_range}

-- one level down: those pairs of the nodes that have a byte in the range
abbrev pub below : Pages → ℕ → ℕ → List Placed → List Placed
below at from to nodes = flat_map (λ s. in_range from to s.start (pairs_on at s.pair.page)) nodes

-- all nodes with a byte in the range, level by level, from those given down `height` levels
abbrev pub nodes_in_range : Pages → ℕ → ℕ → ℕ → List Placed → List Placed
nodes_in_range at from to zero nodes = []
nodes_in_range at from to (suc height) nodes =
    nodes ++ nodes_in_range at from to height (below at from to nodes)

-- the cache keeps each of these nodes
abbrev pub AreKept : KeptNodes → List Placed → Type 0
AreKept cache nodes = AllByRecursion (λ s. IsSome (kept cache s.pair.page)) nodes

-- the cache keeps the same nodes, and no page was read
pub record CostsNothing (before now : KeptNodes) (old new : Meter) : Type 0 where
  pub same : KeepsSame before now
  pub read : new.read ≡ old.read
