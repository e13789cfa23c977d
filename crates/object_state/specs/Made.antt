-- What is known of a content edit once the new version stands beside the old one.
use Rattle.std.specs.Prelude.{◌≡◌, ℕ, Bool, IsTrue, List, length, Option, Some}
use Rattle.eos_ops.specs.declared.edit.Edit.{Edit}
use Rattle.eos_ops.specs.declared.outcome.Outcome.TheVariants.{Done}
use Rattle.eos_ops.specs.Edits.{edited}
use Rattle.fault_count.specs.Counts.{IsUsed, Meter}
use Rattle.layout_model.specs.declared.extent.Extent.{Extent}
use Rattle.moment_model.specs.Edit.{edited_length, edited_slot}
use Rattle.tree_pages.specs.Entry.{Entry}
use Rattle.tree_pages.specs.Levels.{plain_at}
use Rattle.span_store.specs.Held.{bytes_on}
use Rattle.space_directory.specs.SpaceView.{SpaceView}
use Rattle.superdirectory.specs.Grants.{AreTold, KeepsFrame, free_sets}
use Rattle.superdirectory.specs.Rest.{Rest, count}
use Rattle.superdirectory.specs.Trace.{SpaceEvent, Part}
use Rattle.object_body.specs.Calls.{WritesWithin, slot_in}
use Rattle.object_body.specs.Lengths.{outcome_of}
use Rattle.object_body.specs.Places.{AreHome}
use Rattle.object_body.specs.Stored.{entry_length}
use Rattle.object_state.specs.Tree.{TreeView, tree_form, tree_slot, tree_contents}
use Rattle.object_state.specs.Kind.{TreeMayWrite}
use Rattle.object_state.specs.Beside.{AreTaken, slot_beside}
use Rattle.object_state.specs.Drops.{Stock}

-- The edit is done, and the new version has its length and, where they are told, its bytes; the
-- pages that it was granted are those that the layout names, and are gone from the spaces; and no
-- more pages were written than the edit may write.
pub record IsMade (tells : Bool) (v : TreeView) (made : ℕ → Bool) (s : Stock) (working : Entry)
    (spare : Option Extent) (start : ℕ) (edit : Edit) (rest : Rest)
    (trace : Option (List SpaceEvent)) (used now : Meter) : Type 0 where
  pub done : outcome_of edit (tree_form v).working ≡ Done
  pub long : entry_length working ≡ edited_length edit (entry_length v.working)
  pub frame : KeepsFrame rest s.rest
  pub part : Part (λ part. Unit {0}) trace s.trace
  pub port : IsUsed used now
  pub well : now.faults ≡ used.faults
  pub bytes : IsTrue tells → plain_at (bytes_on s.held) v.numbers.page working
      ≡ edited edit (tree_contents v).working
  pub granted : IsTrue tells → (views : List SpaceView) → AreTold rest views →
      length views ≡ count rest →
      slot_in (edited_slot v.numbers start (free_sets views) (tree_slot v) edit)
      ≡ Some (slot_beside v s working spare)
  pub taken : (views : List SpaceView) → AreTold rest views → AreHome rest.frame views →
      AreTaken v.numbers rest.frame made views s.rest
  pub writes : IsTrue tells → WritesWithin
      (TreeMayWrite v.numbers (tree_slot v) edit (slot_beside v s working spare)) used now
