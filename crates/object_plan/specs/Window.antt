-- The window of a change, once its entries were read and tested, and the plan that is made of it.
use Rattle.std.specs.Prelude.{◌≡◌, ℕ, ◌+◌, ◌*◌, ◌<◌, ◌≤◌, true, List, Option, length, map, take, drop}
use Rattle.std.specs.List.{AllByRecursion}
use Rattle.geometry_model.specs.Numbers.{Numbers, space_pages}
use Rattle.tree_model.specs.declared.entry.Placed.{Placed}
use Rattle.tree_model.specs.Range.{pairs_of, start_of}
use Rattle.tree_model.specs.Tree.{Pages, IsSegment, bytes_of}
use Rattle.layout_model.specs.declared.change.Change.{Change}
use Rattle.layout_model.specs.declared.extent.Extent.{Extent}
use Rattle.layout_model.specs.Plan.{Plan, extent_pages, planned}
use Rattle.content_laws.specs.Spelling.{IsPacked, IsThere, edited_content}
use Rattle.window_laws.specs.Searches.{end_of}
use Rattle.window_laws.specs.Window.{moved, wanted_behind}
use Rattle.laid_content_laws.specs.Written.{behind_front}
use Rattle.span_store.specs.Held.{Held}
use Rattle.edit_parts.specs.Parts.{layout_part, parts_content, pieces_of}
use Rattle.edit_parts.specs.Pieces.{IsFrom}
use Rattle.edit_plan.specs.Planned.{CanPlan, IsTight}
use Rattle.object_plan.specs.declared.planned.Planned.{Planned}
use Rattle.object_plan.specs.Planned.{IsFrontOf, IsHeldEntry}

-- entries that a plan can be made from: they end within the object, and stand on pages that are held
pub record IsUsable (n : Numbers) (held : Held) (bytes : ℕ) (change : Change)
    (window : List Placed) : Type 0 where
  pub can : CanPlan n window change.at change.removed change.added
  pub tight : IsTight window change.at change.removed
  pub inside : end_of window ≤ bytes
  pub entries : AllByRecursion (IsHeldEntry n held) (pairs_of window)

-- A plan can be made of such entries. An append is made at their end, and spare pages stand behind
-- one of them.
pub record CanPlanOn (n : Numbers) (threshold : ℕ) (spare : Option Extent) (change : Change)
    (window : List Placed) : Type 0 where
  pub can : CanPlan n window change.at change.removed change.added
  pub tight : IsTight window change.at change.removed
  pub segments : AllByRecursion (IsSegment n) (pairs_of window)
  pub some : 0 < change.removed + change.added
  pub at_end : change.appends ≡ true → (change.at ≡ end_of window) × (change.removed ≡ 0)
      × (0 < extent_pages spare → 0 < length window)
  pub threshold_low : 1 ≤ threshold
  pub threshold_high : 2 * threshold ≤ space_pages n

-- the change with its place counted from the first byte of the window
abbrev pub change_on : List Placed → Change → Change
change_on window change = moved (start_of window) change

-- the plan of a change of these entries
abbrev pub plan_on : Numbers → ℕ → Option Extent → Change → List Placed → Plan
plan_on n threshold spare change window = planned n threshold (pairs_of window)
    (extent_pages spare) (change_on window change)

-- What a plan of a window says: it is that of the definition on these entries, its pieces are bytes
-- of theirs or of the payload, and its parts spell the edited bytes, whatever the pages hold.
pub record IsPlanOn (n : Numbers) (plan : Plan) (change : Change) (window : List Placed)
    (p : Planned) : Type 0 where
  pub change_is : p.change ≡ change
  pub few : plan.from + plan.count ≤ length (pairs_of window)
  pub most : length (pairs_of window) ≤ plan.count + 2
  pub first : p.from ≡ start_of window + bytes_of (take plan.from (pairs_of window))
  pub last : p.to ≡ start_of window + bytes_of (take (plan.from + plan.count) (pairs_of window))
  pub replaced : p.replaced.items ≡ take plan.count (drop plan.from (pairs_of window))
  pub parts : map layout_part p.parts.items ≡ plan.parts
  pub fit : p.fit ≡ plan.fit
  pub requests : p.requests.items ≡ wanted_behind n (pairs_of window) change plan
  pub pieces : IsPacked p.fit → AllByRecursion (IsFrom n.page (pairs_of window) change.added)
      (pieces_of p.parts.items)
  pub spells : IsPacked p.fit → (at : Pages) (payload : List ℕ) → length payload ≡ change.added →
      AllByRecursion (IsThere at n.page) (pairs_of window) →
      IsFrontOf (parts_content at n.page payload p.parts.items)
      (behind_front (pairs_of window) plan
      (edited_content at n.page (pairs_of window) (change_on window change) payload))
