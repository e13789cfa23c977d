-- What a change of an object finds and leaves: what is held and kept, the port and the spaces.
use Rattle.std.specs.Prelude.{ℕ, ◌≤◌, List, None, Option, IfSome}
use Rattle.fault_count.specs.Counts.{Meter}
use Rattle.tree_model.specs.Tree.{page_count}
use Rattle.layout_model.specs.declared.extent.Extent.{Extent}
use Rattle.layout_model.specs.declared.fit.Fit.{Fit}
use Rattle.layout_model.specs.declared.fit.Fit.TheVariants.{Extend, Follow, Fresh}
use Rattle.span_store.specs.Held.{Held, HoldsRun}
use Rattle.page_cache.specs.Kept.{KeptNodes}
use Rattle.part_bytes.specs.Parts.{parts_pages}
use Rattle.superdirectory.specs.Rest.{Rest}
use Rattle.superdirectory.specs.Trace.{SpaceEvent}
use Rattle.object_plan.specs.declared.planned.Planned.{Planned}

-- what the object holds and keeps, and what its port and the spaces show
pub record Scene : Type 0 where
  pub held : Held
  pub nodes : KeptNodes
  pub meter : Meter
  pub rest : Rest
  pub trace : Option (List SpaceEvent)

-- the spare pages that a change writes on: none where its parts are asked for
abbrev pub used_spare : Fit → Option Extent → Option Extent
used_spare Fresh spare = None
used_spare Follow spare = spare
used_spare Extend spare = spare

-- the spare pages, a run of one at least, are held
abbrev pub HoldsSpare : Held → Option Extent → Type 0
HoldsSpare held spare = IfSome spare (λ run. (1 ≤ run.pages) × HoldsRun held run.page run.pages)

-- the pages that a plan's new bytes fill: those of the made parts, or those of the new bytes alone
-- where the last segment grows
abbrev pub filled_pages : ℕ → Planned → ℕ
filled_pages size p =
    elim p.fit [ Extend ↦ page_count size p.change.added | _ ↦ parts_pages size p.parts.items ]
