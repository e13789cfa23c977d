-- What is kept of an object beside its pages: that it is there, the root of its tree, and its
-- threshold.
use Rattle.std.specs.Prelude.{ℕ, Option}
use Rattle.tree_model.specs.declared.tree.Root.{Root}

-- what is said of a present object: its root, and from how many pages on a segment of it may
-- stand beside a smaller one
pub record Present : Type 0 where
  pub root : Root
  pub threshold : ℕ

-- an entry is none for an absent object
abbrev pub Entry : Type 0
Entry = Option Present
