-- What a list of pairs is to contracts.
use Rattle.std.specs.Prelude.{ℕ, List}
use Rattle.tree_model.specs.declared.entry.Pair.{Pair}

-- pairs in order, and how many the list has room for before it takes memory
pub record PairList : Type 0 where
  pub items : List Pair
  pub room : ℕ
