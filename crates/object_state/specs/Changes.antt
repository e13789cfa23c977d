-- An edit of bytes as a change, and what has to be there before the pages that it drops go.
use Rattle.std.specs.Prelude.{◌≡◌, ℕ, ◌||◌, Bool, true, false, IsTrue, List, length, Option}
use Rattle.std.specs.Prelude.{Some, Result, Ok, Err, IfOk, OnErr}
use Rattle.std.specs.List.{AllByRecursion}
use Rattle.eos_ops.specs.declared.edit.Edit.{Edit}
use Rattle.eos_ops.specs.declared.edit.Edit.TheVariants.{Create, Destroy, Append, Insert, Delete}
use Rattle.eos_ops.specs.declared.edit.Edit.TheVariants.{Replace}
use Rattle.eos_ops.specs.declared.outcome.Outcome.{Outcome}
use Rattle.eos_ops.specs.declared.outcome.Outcome.TheVariants.{Done}
use Rattle.fault_count.specs.Counts.{HasCause, Meter}
use Rattle.geometry_model.specs.Numbers.{Numbers}
use Rattle.layout_model.specs.declared.change.Change.{Change}
use Rattle.layout_model.specs.declared.extent.Extent.{Extent}
use Rattle.moment_model.specs.Edit.{change_at, edited_slot}
use Rattle.moment_model.specs.Version.{segment_run}
use Rattle.page_cache.specs.Kept.{KeptNodes}
use Rattle.page_set.specs.Members.{AreSame, Keeps}
use Rattle.page_set.specs.Words.{PageSetView, in_set, room_in}
use Rattle.span_store.specs.Held.{AllSized, Held, bytes_on}
use Rattle.superdirectory.specs.Rest.{Rest}
use Rattle.superdirectory.specs.Trace.{SpaceEvent}
use Rattle.tree_model.specs.declared.tree.Root.{Root}
use Rattle.tree_pages.specs.Entry.{Entry}
use Rattle.tree_read.specs.Search.{KeepsNodes, Uses}
use Rattle.tree_splice.specs.Splice.{extent_of}
use Rattle.object_body.specs.declared.fails.EditFail.{EditFail}
use Rattle.object_body.specs.declared.fails.EditFail.TheVariants.{Fault, NoSpace}
use Rattle.object_body.specs.Calls.{IsEdit}
use Rattle.object_body.specs.Form.{HaveLengths}
use Rattle.object_body.specs.Lengths.{outcome_of}
use Rattle.object_plan.specs.declared.planned.Planned.{Planned}
use Rattle.object_plan.specs.declared.working_tree.WorkingTree.{WorkingTree}
use Rattle.object_plan.specs.Planned.{CanMake, IsPlanOf}
use Rattle.object_plan.specs.WorkingTree.{CanChange}
use Rattle.object_change.specs.declared.changed.Changed.{Changed}
use Rattle.object_state.specs.Changing.{goes_by, kept_by, made_by}
use Rattle.object_state.specs.Cuts.{HasBorders, IsCutMore}
use Rattle.object_state.specs.Edits.{tree_stage}
use Rattle.object_state.specs.Idle.{IsIdle}
use Rattle.object_state.specs.Keeps.{IsMarked, KeepsTreeBody}
use Rattle.object_state.specs.Kind.{TreeMayRefuse, TreeMayWrite}
use Rattle.object_state.specs.Runs.{HoldsExtent, IsNumbered}
use Rattle.object_state.specs.Tree.{TreeView}

-- is it an append?
abbrev pub is_append : Edit → Bool
is_append (Create threshold) = false
is_append Destroy = false
is_append (Append bytes) = true
is_append (Insert at bytes) = false
is_append (Delete at count) = false
is_append (Replace at bytes) = false

-- the change that an edit is of an object of so many bytes; a `create` and a `destroy` are none
abbrev pub change_of : Edit → ℕ → Change
change_of (Create threshold) size = change_at 0 0 0 false
change_of Destroy size = change_at 0 0 0 false
change_of (Append bytes) size = change_at size 0 (length bytes) true
change_of (Insert at bytes) size = change_at at 0 (length bytes) false
change_of (Delete at count) size = change_at at count 0 false
change_of (Replace at bytes) size = change_at at (length bytes) (length bytes) false

-- does the edit change the bytes of a present object?
abbrev pub ChangesBytes : Edit → Type 0
ChangesBytes (Create threshold) = ⊥
ChangesBytes Destroy = ⊥
ChangesBytes (Append bytes) = Unit {0}
ChangesBytes (Insert at bytes) = Unit {0}
ChangesBytes (Delete at count) = Unit {0}
ChangesBytes (Replace at bytes) = Unit {0}

-- the working version as an entry, and the object with it
abbrev pub entry_on : WorkingTree → Entry
entry_on w = Some (record { root = w.root; threshold = w.threshold })

abbrev pub view_on : Numbers → Entry → WorkingTree → Held → KeptNodes → PageSetView →
    PageSetView → TreeView
view_on n committed w held cache fresh locked = record {
  numbers = n;
  committed = committed;
  working = entry_on w;
  spare = w.spare;
  held = held;
  cache = cache;
  fresh = fresh;
  locked = locked;
}

-- the pages of the run have numbers of 4 bytes, as the page behind them has, and are held
pub record IsHeldRun (held : Held) (run : Extent) : Type 0 where
  pub low : IsNumbered run
  pub pages : HoldsExtent held run

-- the new entries and the nodes that are left out stand on such pages
pub record StandsOnHeld (held : Held) (size : ℕ) (c : Changed) : Type 0 where
  pub entries : AllByRecursion (λ p. IsHeldRun held (segment_run size p)) c.entries.items
  pub left : AllByRecursion (λ run. IsHeldRun held (extent_of run)) c.left

-- their pages are held, whatever numbers they have
pub record IsOnHeld (held : Held) (size : ℕ) (c : Changed) : Type 0 where
  pub entries : AllByRecursion (λ p. HoldsExtent held (segment_run size p)) c.entries.items
  pub left : AllByRecursion (λ run. HoldsExtent held (extent_of run)) c.left

-- Nothing can fail any more: the pages that go are known, stand in spans of their own, and there is
-- room for them among the locked ones; each kept run stands in spans of its own too; and the
-- granted pages are fresh.
pub record IsReadyFor (size : ℕ) (p : Planned) (spare : Option Extent) (c : Changed)
    (held : Held) (was fresh locked : PageSetView) (gone : PageSetView) : Type 0 where
  pub gone_is : (page : ℕ) → in_set gone page ≡ goes_by size p spare c page
  pub marked : IsMarked held (in_set gone)
  pub room : Keeps (in_set gone) (room_in locked)
  pub borders : AllByRecursion (HasBorders held) (kept_by size c)
  pub fresh_is : (page : ℕ) → in_set fresh page ≡ (in_set was page || made_by c page)

-- ---- the steps of a change, one record each

-- the edit changes bytes of an object of this length, and it is made
pub record IsByteEdit (edit : Edit) (size : ℕ) : Type 0 where
  pub bytes : ChangesBytes edit
  pub done : outcome_of edit (Some size) ≡ Done
  pub changes : IsIdle edit → ⊥

-- what is planned: the change that the edit is, which can be made, and nothing but kept nodes
-- differs
pub record PlansEdit (tells : Bool) (n : Numbers) (w : WorkingTree) (edit : Edit) (held : Held)
    (cache : KeptNodes) (result : Result Planned EditFail) (used now : Meter) : Type 0 where
  pub change : IfOk result (λ p. p.change ≡ change_of edit w.root.length)
  pub can : IfOk result (λ p. CanChange n w p.change)
  pub ready : IfOk result (λ p. CanMake n held w p)
  pub told : IfOk result (λ p. IsTrue tells → IsPlanOf n (bytes_on held) w p)
  pub granted : (pages : ℕ) → result ≡ Err (NoSpace pages) → ⊥
  pub nodes : KeepsNodes tells n.page (bytes_on held) cache
  pub uses : Uses used now
  pub cause : HasCause used.faults now.faults (result ≡ Err Fault)

-- spans were cut, and nothing else became of what is held
pub record IsOnlyCut (tells : Bool) (old new : Held) : Type 0 where
  pub times : ℕ
  pub cut : IsCutMore times old new
  pub sized : (size : ℕ) → AllSized tells size old → AllSized tells size new

-- the same pages
pub record IsSameSet (old new : PageSetView) : Type 0 where
  pub same : AreSame (in_set old) (in_set new)
  pub size : new.size ≡ old.size

-- Everything is made ready for the dropped pages to go, or, where that is refused, spans were cut
-- at most.
pub record MakesReady (tells : Bool) (size : ℕ) (p : Planned) (spare : Option Extent) (c : Changed)
    (result : Result PageSetView EditFail) (old new : Held)
    (was fresh unlocked locked : PageSetView) (used now : Meter) : Type 0 where
  pub ready : IfOk result (IsReadyFor size p spare c new was fresh locked)
  pub only : IsOnlyCut tells old new
  pub fresh_same : OnErr result (IsSameSet was fresh)
  pub locked_same : IsSameSet unlocked locked
  pub granted : (pages : ℕ) → result ≡ Err (NoSpace pages) → ⊥
  pub meter : now ≡ record used { faults = now.faults }
  pub cause : HasCause used.faults now.faults (result ≡ Err Fault)

-- the working version after a change, and the answer to the edit
abbrev pub working_in : WorkingTree → Result (Root × Option Extent) EditFail → WorkingTree
working_in w (Ok r) = record { root = r.0; threshold = w.threshold; spare = r.1 }
working_in w (Err fail) = w

abbrev pub answer_in : Result (Root × Option Extent) EditFail → Result Outcome EditFail
answer_in (Ok r) = Ok Done
answer_in (Err fail) = Err fail

-- what an edit makes of an object, and that this is one again
pub record MakesTree (tells : Bool) (start : ℕ) (edit : Edit) (result : Result Outcome EditFail)
    (old new : TreeView) (rest last : Rest) (trace after : Option (List SpaceEvent))
    (used now : Meter) : Type 0 where
  pub keeps : KeepsTreeBody tells new
  pub makes : IsEdit tells HaveLengths edited_slot TreeMayRefuse TreeMayWrite start edit result
      (tree_stage old rest trace) (tree_stage new last after) used now
