-- Runs of pages: what goes with them, what has room, and what is cut.
use Rattle.std.specs.Prelude.{ℕ, ◌+◌, ◌^◌, ◌<◌, ◌&&◌, Bool, List, nat_eq, nat_lt}
use Rattle.layout_model.specs.declared.extent.Extent.{Extent}
use Rattle.moment_model.specs.Version.{uses}
use Rattle.page_set.specs.Members.{AllOn}
use Rattle.page_set.specs.Words.{PageSetView, room_in}
use Rattle.span_store.specs.Held.{Held, HoldsRun}

-- the pages of the dropped runs that none of the kept ones has
abbrev pub goes : List Extent → List Extent → ℕ → Bool
goes dropped kept page = nat_lt 0 (uses page dropped) && nat_eq (uses page kept) 0

-- the pages of the run have numbers of 4 bytes, and so has the page behind it
abbrev pub IsNumbered : Extent → Type 0
IsNumbered run = run.page + run.pages < 2 ^ 32

-- there is room for each page of the run
abbrev pub HasRoomOn : PageSetView → Extent → Type 0
HasRoomOn set run = AllOn (room_in set) run.page run.pages

-- each page of the run is held
abbrev pub HoldsExtent : Held → Extent → Type 0
HoldsExtent held run = HoldsRun held run.page run.pages
