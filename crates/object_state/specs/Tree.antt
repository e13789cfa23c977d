-- What an object in a tree of segments keeps, and what it shows.
use Rattle.std.specs.Prelude.{Bool, true, false, ◌&&◌, Option, Some, None, is_none, nat_eq}
use Rattle.geometry_model.specs.Numbers.{Numbers}
use Rattle.layout_model.specs.declared.extent.Extent.{Extent}
use Rattle.moment_model.specs.Moment.{ObjectSlot}
use Rattle.tree_pages.specs.Entry.{Present, Entry}
use Rattle.tree_pages.specs.Levels.{version_at, plain_at}
use Rattle.page_set.specs.Words.{PageSetView}
use Rattle.span_store.specs.Held.{Held, bytes_on}
use Rattle.page_cache.specs.Kept.{KeptNodes}
use Rattle.object_body.specs.Form.{Form, Contents}
use Rattle.object_body.specs.Stored.{entry_length}

-- The entries of both versions, the spare pages behind the last segment of the working one, and
-- the pages that are held. Of these the fresh ones are those that the working version or the spare
-- alone uses, and the locked ones those that the committed version alone uses.
pub record TreeView : Type 0 where
  pub numbers : Numbers
  pub committed : Entry
  pub working : Entry
  pub spare : Option Extent
  pub held : Held
  pub cache : KeptNodes
  pub fresh : PageSetView
  pub locked : PageSetView

-- have both entries the same root and threshold?
abbrev pub same_present : Present → Present → Bool
same_present a b = nat_eq a.root.height b.root.height && (nat_eq a.root.page b.root.page
    && (nat_eq a.root.length b.root.length && nat_eq a.threshold b.threshold))

abbrev pub same_entry : Entry → Entry → Bool
same_entry None None = true
same_entry None (Some b) = false
same_entry (Some a) None = false
same_entry (Some a) (Some b) = same_present a b

-- an object is at rest where both entries are the same, and no page is spare, fresh or locked
abbrev pub is_resting : TreeView → Bool
is_resting v = same_entry v.working v.committed
    && (is_none v.spare && (nat_eq v.fresh.size 0 && nat_eq v.locked.size 0))

abbrev pub tree_form : TreeView → Form
tree_form v = record {
  numbers = v.numbers;
  committed = entry_length v.committed;
  working = entry_length v.working;
  is_resting = is_resting v;
}

-- the versions that the entries and the held pages show
abbrev pub tree_slot : TreeView → ObjectSlot
tree_slot v = record {
  committed = version_at (bytes_on v.held) v.committed;
  working = version_at (bytes_on v.held) v.working;
  spare = v.spare;
}

abbrev pub tree_contents : TreeView → Contents
tree_contents v = record {
  slot = tree_slot v;
  committed = plain_at (bytes_on v.held) v.numbers.page v.committed;
  working = plain_at (bytes_on v.held) v.numbers.page v.working;
}
