-- The pairs that a search goes on with.
use Rattle.std.specs.Prelude.{ℕ, List, [], Option, Some, None}
use Rattle.node_codec.specs.declared.parsed.Node.{Node}
use Rattle.page_cache.specs.Kept.{KeptNodes, kept}
use Rattle.tree_model.specs.declared.entry.Pair.{Pair}

-- the pairs of a node that may be there
abbrev pub pairs_lent : Option Node → List Pair
pairs_lent None = []
pairs_lent (Some node) = node.pairs.items

-- the pairs of a page's node: of the one fetched, or else of the one that the cache keeps
abbrev pub loaded : Option Node → KeptNodes → ℕ → List Pair
loaded None cache page = pairs_lent (kept cache page)
loaded (Some node) cache page = node.pairs.items
