-- What an object in memory is to the store: it uses no page, and none is asked for.
use Rattle.std.specs.Prelude.{◌≡◌, ℕ, Option, is_none, unwrap_or}
use Rattle.eos_ops.specs.declared.edit.Edit.{Edit}
use Rattle.eos_ops.specs.declared.plain.Plain.{Plain}
use Rattle.geometry_model.specs.Numbers.{Numbers}
use Rattle.layout_model.specs.Grants.{Spaces, Answer, Got}
use Rattle.moment_model.specs.Moment.{ObjectSlot, absent_slot}
use Rattle.object_body.specs.Form.{Form, Contents}
use Rattle.object_body.specs.Lengths.{length_of}

-- the working version, which is the committed one where there is no other
abbrev pub working_plain : Plain → Option Plain → Plain
working_plain committed working = unwrap_or working committed

abbrev pub plain_form : Numbers → Plain → Option Plain → Form
plain_form n committed working = record {
  numbers = n;
  committed = length_of committed;
  working = length_of (working_plain committed working);
  is_resting = is_none working;
}

-- its slot is that of an absent object, which has no page
abbrev pub plain_contents : Plain → Option Plain → Contents
plain_contents committed working = record {
  slot = absent_slot;
  committed = committed;
  working = working_plain committed working;
}

abbrev pub HasNoPage : Contents → Type 0
HasNoPage told = told.slot ≡ absent_slot

-- an edit leaves the slot and the free pages as they are
abbrev pub lays_nothing : Numbers → ℕ → Spaces → ObjectSlot → Edit → Answer ObjectSlot
lays_nothing n start free slot edit = Got slot free
