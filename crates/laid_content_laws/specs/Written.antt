-- A change of an object that was granted pages, and what the pages hold once its bytes are written:
-- those that it brings, on what it was granted and on the spare, and elsewhere what they held.
use Rattle.std.specs.Prelude.{◌≡◌, ℕ, ◌<◌, Option, Some, List, [], ◌∷◌, take, drop}
use Rattle.geometry_model.specs.Numbers.{Numbers}
use Rattle.tree_model.specs.Content.{content, segment_bytes}
use Rattle.tree_model.specs.Tree.{Pages, bytes_of}
use Rattle.tree_model.specs.declared.entry.Pair.{Pair}
use Rattle.layout_model.specs.declared.change.Change.{Change}
use Rattle.layout_model.specs.declared.extent.Extent.{Extent}
use Rattle.layout_model.specs.declared.fit.Fit.{Fit}
use Rattle.layout_model.specs.declared.fit.Fit.TheVariants.{Extend, Follow, Fresh}
use Rattle.layout_model.specs.declared.part.Part.{Part}
use Rattle.layout_model.specs.declared.part.Part.TheVariants.{Keep, Make}
use Rattle.layout_model.specs.Layout.{Tree, Grants, tree_entries, plan_of, segments_on}
use Rattle.layout_model.specs.Layout.{as_run}
use Rattle.layout_model.specs.Plan.{Plan}
use Rattle.moment_model.specs.Moment.{ObjectSlot, either_uses}
use Rattle.moment_model.specs.Version.{IsGood, uses, spare_uses}
use Rattle.moment_laws.specs.ByObject.{IsSoundSlot}
use Rattle.moment_laws.specs.Granting.{granted_runs}
use Rattle.content_laws.specs.Spelling.{edited_content, behind_last}
use Rattle.change_laws.specs.Laying.{IsChange}
use Rattle.change_laws.specs.Suiting.{IsSuited}
use Rattle.change_laws.specs.Tail.{IsTail}

-- A change of a sound object was granted pages that suit it, and that the object doesn't use.
pub record IsGrantedChange (n : Numbers) (slot : ObjectSlot) (tree : Tree) (change : Change)
    (grants : Grants) : Type 0 where
  pub sound : IsSoundSlot IsGood n slot
  pub working : slot.working ≡ Some tree
  pub tail : IsTail n (Some tree) slot.spare
  pub within : IsChange tree change
  pub suits : IsSuited n tree slot.spare change grants
  pub unused : (page : ℕ) → 0 < either_uses n page slot → uses page (granted_runs grants) ≡ 0

-- each page but the granted ones and the spare's holds what it held
abbrev pub OthersStay : ObjectSlot → Grants → Pages → Pages → Type 0
OthersStay slot grants at now =
    (page : ℕ) → uses page (granted_runs grants) ≡ 0 → spare_uses page slot.spare ≡ 0 →
    now page ≡ at page

-- Each made part's runs hold its stretch of the bytes. A kept part's bytes are passed over.
abbrev pub AreMade : Pages → ℕ → List Part → List (List Extent) → List ℕ → Type 0
AreMade now size [] runs bytes = Unit {0}
AreMade now size (Keep pair ∷ rest) runs bytes = AreMade now size rest runs (drop pair.bytes bytes)
AreMade now size (Make count ∷ rest) [] bytes = ⊥
AreMade now size (Make count ∷ rest) (run ∷ runs) bytes =
    (content now size (segments_on size count run) ≡ take count bytes)
    × AreMade now size rest runs (drop count bytes)

-- the bytes of an object behind the entries that stand before a plan's parts
abbrev pub behind_front : List Pair → Plan → List ℕ → List ℕ
behind_front entries plan bytes = drop (bytes_of (take plan.from entries)) bytes

-- The bytes that a change brings are written, by how it meets the spare: the made parts on the
-- granted runs, or the made part on the spare, or the payload on the spare right behind the last
-- segment.
abbrev pub IsWrittenBy : Fit → Numbers → Pages → Pages → List Pair → Option Extent → Change →
    Plan → List (List Extent) → List ℕ → Type 0
IsWrittenBy Fresh n at now entries spare change plan runs payload =
    AreMade now n.page plan.parts runs
    (behind_front entries plan (edited_content at n.page entries change payload))
IsWrittenBy Follow n at now entries spare change plan runs payload =
    AreMade now n.page plan.parts (as_run spare)
    (behind_front entries plan (edited_content at n.page entries change payload))
IsWrittenBy Extend n at now entries spare change plan runs payload =
    segment_bytes now n.page (behind_last n.page entries change.added) ≡ payload

-- the bytes that a change of a tree brings are written where its plan has them
abbrev pub IsWritten : Numbers → Pages → Pages → Tree → Option Extent → Change → Grants →
    List ℕ → Type 0
IsWritten n at now tree spare change grants payload =
    let plan = plan_of n tree spare change in
    IsWrittenBy plan.fit n at now (tree_entries tree) spare change plan grants.runs payload
