-- What an object owns, and what it owns once pages of it are dropped.
use Rattle.std.specs.Prelude.{◌≡◌, ℕ, ◌+◌, ◌<◌, Bool, false, not, ◌&&◌, ◌||◌, List, Option}
use Rattle.geometry_model.specs.Numbers.{Numbers}
use Rattle.page_set.specs.Members.{Keeps}
use Rattle.page_set.specs.Words.{PageSetView, in_set, room_in}
use Rattle.span_store.specs.Held.{Held, AllSized, begins}
use Rattle.page_cache.specs.Kept.{KeptNodes}
use Rattle.superdirectory.specs.Rest.{Rest}
use Rattle.superdirectory.specs.Trace.{SpaceEvent}
use Rattle.object_body.specs.Places.{IsReady}
use Rattle.object_state.specs.Keeps.{AreOnData, IsMarked}
use Rattle.give_back.specs.Giving.{IsWholeRun, LeavesNodes, LetsGo}
use Rattle.object_state.specs.Ends.{drops}

-- the pages that an object holds, the nodes that it keeps, the fresh and the locked pages, and the
-- spaces that it is used with
pub record Stock : Type 0 where
  pub held : Held
  pub cache : KeptNodes
  pub fresh : PageSetView
  pub locked : PageSetView
  pub rest : Rest
  pub trace : Option (List SpaceEvent)

-- the pages of a run are just those of one span
pub record IsOneSpan (held : Held) (first pages : ℕ) : Type 0 where
  pub whole : IsWholeRun held first pages
  pub inner : (q : ℕ) → first < q → q < first + pages → begins held q ≡ false

-- an object that can drop pages: its pages are data pages of the store's size, and the fresh ones
-- stand in spans of their own
pub record CanDrop (tells : Bool) (n : Numbers) (s : Stock) : Type 0 where
  pub ready : IsReady n s.rest
  pub on_data : AreOnData n s.held
  pub sized : AllSized tells n.page s.held
  pub marked : IsMarked s.held (in_set s.fresh)

-- These pages were dropped: the fresh ones of them left the object and went back to their spaces,
-- and the others are locked, there and by the object.
pub record Drops (tells : Bool) (n : Numbers) (gone : ℕ → Bool) (old new : Stock) : Type 0 where
  pub left : LeavesNodes tells n.page (λ page. gone page && in_set old.fresh page)
      old.held new.held old.cache new.cache
  pub fresh : (page : ℕ) → in_set new.fresh page ≡ (in_set old.fresh page && not (gone page))
  pub locked : (page : ℕ) → in_set new.locked page
      ≡ (in_set old.locked page || (gone page && not (in_set old.fresh page)))
  pub room : Keeps (room_in old.locked) (room_in new.locked)
  pub went : LetsGo n (drops gone (in_set old.fresh)) old.rest new.rest old.trace new.trace
