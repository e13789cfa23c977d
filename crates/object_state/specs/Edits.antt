-- An edit that asks for no page.
use Rattle.std.specs.Prelude.{◌≡◌, ℕ, Bool, List, Option, None, Result, Ok}
use Rattle.eos_ops.specs.declared.edit.Edit.{Edit}
use Rattle.eos_ops.specs.declared.outcome.Outcome.{Outcome}
use Rattle.fault_count.specs.Counts.{Meter}
use Rattle.moment_model.specs.Edit.{edited_slot}
use Rattle.superdirectory.specs.Rest.{Rest}
use Rattle.superdirectory.specs.Trace.{SpaceEvent}
use Rattle.object_body.specs.declared.fails.EditFail.{EditFail}
use Rattle.object_body.specs.Calls.{IsEdit, Stage}
use Rattle.object_body.specs.Form.{HaveLengths}
use Rattle.object_state.specs.Kind.{TreeMayRefuse, TreeMayWrite}
use Rattle.object_state.specs.Tree.{TreeView, tree_form, tree_contents}

-- what the object shows, beside spaces
abbrev pub tree_stage : TreeView → Rest → Option (List SpaceEvent) → Stage
tree_stage v rest trace = record {
  form = tree_form v;
  told = tree_contents v;
  rest = rest;
  trace = trace;
}

-- it is the edit that a body is asked for, from each space on, and whatever the port is: it doesn't
-- use the port
abbrev pub MakesOnSpaces : Bool → Edit → Result Outcome EditFail → Stage → Stage → Type 0
MakesOnSpaces tells edit result before after = (start : ℕ) (meter : Meter) →
    IsEdit tells HaveLengths edited_slot TreeMayRefuse TreeMayWrite start edit result
    before after meter meter

-- and whatever the spaces are: it uses neither
abbrev pub MakesTreeEdit : Bool → Edit → Outcome → TreeView → TreeView → Type 0
MakesTreeEdit tells edit outcome old new = (rest : Rest) (trace : Option (List SpaceEvent)) →
    rest.entered ≡ None →
    MakesOnSpaces tells edit (Ok outcome) (tree_stage old rest trace) (tree_stage new rest trace)
