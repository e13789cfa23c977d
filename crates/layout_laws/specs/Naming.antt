-- What is said of the levels of a tree, the lowest first.
use Rattle.std.specs.Prelude.{◌≡◌, ℕ, ◌<◌, List, [], ◌∷◌, length, map}
use Rattle.layout_model.specs.Levels.{PageNode, pair_of, pairs_of_level}

-- the pairs of each level above the lowest name the nodes of the level below, in order
abbrev pub AreNamed : List (List PageNode) → Type 0
AreNamed [] = Unit {0}
AreNamed (nodes ∷ []) = Unit {0}
AreNamed (nodes ∷ up ∷ rest) = (pairs_of_level up ≡ map pair_of nodes) × AreNamed (up ∷ rest)

-- each level has a pair
abbrev pub HavePairs : List (List PageNode) → Type 0
HavePairs [] = Unit {0}
HavePairs (nodes ∷ rest) = (0 < length (pairs_of_level nodes)) × HavePairs rest
