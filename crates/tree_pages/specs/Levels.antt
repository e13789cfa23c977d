-- The levels of the tree that stands on pages, and what an entry and the pages show of an object:
-- its version, and its bytes.
use Rattle.std.specs.Prelude.{ℕ, zero, suc, Some, None, List, [], ◌∷◌, ◌++◌, map}
use Rattle.eos_ops.specs.declared.plain.Plain.{Plain}
use Rattle.eos_ops.specs.declared.plain.Plain.TheVariants as plain
use Rattle.tree_model.specs.declared.tree.Root.{Root}
use Rattle.tree_model.specs.Tree.{Pages, entries_of, pairs_on}
use Rattle.tree_model.specs.Content.{content}
use Rattle.layout_model.specs.Levels.{PageNode, pairs_of_level}
use Rattle.layout_model.specs.Layout.{tree_entries}
use Rattle.moment_model.specs.Version.{Version}
use Rattle.moment_model.specs.Moment.{ObjectSlot}
use Rattle.tree_pages.specs.Entry.{Entry}

-- the node on a page
abbrev pub node_on : Pages → ℕ → PageNode
node_on at page = record { page = page; pairs = pairs_on at page }

-- the nodes of the level below that these nodes name
abbrev pub named_by : Pages → List PageNode → List PageNode
named_by at nodes = map (λ pair. node_on at pair.page) (pairs_of_level nodes)

-- the levels from nodes of this height down, the lowest first
abbrev pub levels_down : Pages → ℕ → List PageNode → List (List PageNode)
levels_down at zero nodes = []
levels_down at (suc below) nodes = levels_down at below (named_by at nodes) ++ nodes ∷ []

-- the levels of the tree at a root
abbrev pub levels_at : Pages → Root → List (List PageNode)
levels_at at root = levels_down at root.height (node_on at root.page ∷ [])

-- the version of an object that its entry and the pages show
abbrev pub version_at : Pages → Entry → Version
version_at at None = None
version_at at (Some present) = Some (record {
  levels = levels_at at present.root;
  threshold =
      present.threshold;
})

-- the slot of an object at rest in this version
abbrev pub slot_at_rest : Version → ObjectSlot
slot_at_rest version = record { committed = version; working = version; spare = None }

-- the content of an object
abbrev pub plain_at : Pages → ℕ → Entry → Plain
plain_at at size None = plain.Absent
plain_at at size (Some present) = plain.Present
    (content at size (entries_of at present.root.height present.root.page))

-- the bytes of a version, those of its segments on these pages
abbrev pub version_plain : Pages → ℕ → Version → Plain
version_plain at size None = plain.Absent
version_plain at size (Some tree) = plain.Present (content at size (tree_entries tree))
