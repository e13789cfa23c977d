-- What a tree loses and gains by an exchange: nodes that it doesn't have any more, and those made.
use Rattle.std.specs.Prelude.{ℕ, List, [], ◌∷◌, ◌++◌, take, drop}
use Rattle.std.specs.List.{flat_map}
use Rattle.layout_model.specs.Levels.{PageNode, NewLevel}
use Rattle.local_laws.specs.Cut.{Cut}

-- The nodes of these levels that the new levels don't have any more: those at the site of each new
-- level, and all of a level in whose place none stands.
abbrev pub nodes_left : List (List PageNode) → List NewLevel → List PageNode
nodes_left [] new = []
nodes_left (nodes ∷ above) [] = nodes ++ nodes_left above []
nodes_left (nodes ∷ above) (level ∷ new) =
    take level.count (drop level.from nodes) ++ nodes_left above new

-- the nodes that are made, from the lowest level upwards
abbrev pub nodes_made : List NewLevel → List PageNode
nodes_made new = flat_map (λ level. level.made) new

-- the run of a level that is cut so
abbrev pub cut_run : Cut → List PageNode
cut_run cut = cut.run
