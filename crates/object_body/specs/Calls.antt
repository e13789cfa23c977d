-- What the calls of a body do, each as one record over what the body, its port and the spaces
-- show before and after.
use Rattle.std.specs.Prelude.{◌≡◌, ℕ, ◌+◌, ◌<◌, ◌≤◌, Bool, true, IsTrue, List, length}
use Rattle.std.specs.Prelude.{Option, Some, None, Result, Ok, Err, IfOk, OnOk}
use Rattle.eos_ops.specs.declared.edit.Edit.{Edit}
use Rattle.eos_ops.specs.declared.outcome.Outcome.{Outcome}
use Rattle.eos_ops.specs.declared.outcome.Outcome.TheVariants.{Done}
use Rattle.eos_ops.specs.declared.reply.Reply.TheVariants as reply
use Rattle.eos_ops.specs.Edits.{edited}
use Rattle.eos_ops.specs.Objects.{read_in}
use Rattle.fault_count.specs.Counts.{HasCause, IsUsed, Meter}
use Rattle.geometry_model.specs.Numbers.{Numbers}
use Rattle.block_model.specs.Place.{least_order}
use Rattle.layout_model.specs.Grants.{Spaces, Answer, Got, Refused}
use Rattle.moment_model.specs.Edit.{accepts, edited_length}
use Rattle.moment_model.specs.Moment.{ObjectSlot}
use Rattle.moment_model.specs.Run.{Lays}
use Rattle.moment_model.specs.Version.{version_bytes}
use Rattle.space_directory.specs.SpaceView.{SpaceView}
use Rattle.superdirectory.specs.Grants.{AreTold, free_sets, KeepsFrame}
use Rattle.superdirectory.specs.Rest.{Frame, Rest, count}
use Rattle.superdirectory.specs.Trace.{SpaceEvent, Part, IsLow, AreEnters}
use Rattle.object_body.specs.declared.fails.EditFail.{EditFail}
use Rattle.object_body.specs.declared.fails.EditFail.TheVariants.{NoSpace, Fault, Memory}
use Rattle.object_body.specs.declared.fails.LookFail.{LookFail}
use Rattle.object_body.specs.declared.fails.LookFail.TheVariants as look
use Rattle.object_body.specs.Form.{Form, Contents, AreTied}
use Rattle.object_body.specs.Lengths.{outcome_of}
use Rattle.object_body.specs.Memory.{EditMayTakeMemory}
use Rattle.object_body.specs.Moves.{MovesTold, IsUntouched}
use Rattle.object_body.specs.Places.{AreHome}

-- what a body shows, and the spaces that it is used with
pub record Stage : Type 0 where
  pub form : Form
  pub told : Contents
  pub rest : Rest
  pub trace : Option (List SpaceEvent)

-- the slot that an answer gives, and the pages that it refuses
abbrev pub slot_in : Answer ObjectSlot → Option ObjectSlot
slot_in (Got slot left) = Some slot
slot_in (Refused pages) = None

abbrev pub pages_in : Answer ObjectSlot → Option ℕ
pages_in (Got slot left) = None
pages_in (Refused pages) = Some pages

-- an edit that is refused pages is one that the object takes, by the length of its slot
abbrev pub RefusesTaken : Lays → Type 0
RefusesTaken laid = (n : Numbers) (start : ℕ) (free : Spaces) (slot : ObjectSlot) (edit : Edit)
    (pages : ℕ) → pages_in (laid n start free slot edit) ≡ Some pages →
    accepts (version_bytes slot.working) edit ≡ true

-- An edit that was made is the one that the kind of object lays out; one that found no space is
-- refused these pages there. Want of memory and a fault may come in place of either.
abbrev pub IsEditAnswer : Answer ObjectSlot → ObjectSlot → Result Outcome EditFail → Type 0
IsEditAnswer answer after (Ok outcome) = slot_in answer ≡ Some after
IsEditAnswer answer after (Err (NoSpace pages)) = pages_in answer ≡ Some pages
IsEditAnswer answer after (Err Fault) = Unit {0}
IsEditAnswer answer after (Err Memory) = Unit {0}

-- the spaces moved with the object, or after a refusal not at all
abbrev pub HaveMoved : Numbers → Frame → List SpaceView → ObjectSlot → ObjectSlot → Rest →
    Result Outcome EditFail → Type 0
HaveMoved n frame views old new rest (Ok outcome) = MovesTold n frame views old new rest
HaveMoved n frame views old new rest (Err fail) = IsUntouched n frame views rest

-- every space was found to have no block for so many pages, at a look or an enter of this part
abbrev pub AreLow : ℕ → ℕ → List SpaceEvent → Type 0
AreLow spaces pages part = (space : ℕ) → space < spaces → IsLow space (least_order pages) part

-- where there was no space, every one was found low
abbrev pub IsExplained : ℕ → Result Outcome EditFail → List SpaceEvent → Type 0
IsExplained spaces (Ok outcome) part = Unit {0}
IsExplained spaces (Err (NoSpace pages)) part = AreLow spaces pages part
IsExplained spaces (Err Fault) part = Unit {0}
IsExplained spaces (Err Memory) part = Unit {0}

-- the working version has the length that the edit makes of it
pub record IsEditedForm (edit : Edit) (old new : Form) : Type 0 where
  pub numbers : new.numbers ≡ old.numbers
  pub committed : new.committed ≡ old.committed
  pub working : new.working ≡ edited_length edit old.working

-- an edit whose outcome isn't `Done` leaves all as it was, and so does a refusal
abbrev pub IsUnmade : {A : Type 0} → A → A → Result Outcome EditFail → Type 0
IsUnmade old new (Ok outcome) = (outcome ≡ Done → ⊥) → new ≡ old
IsUnmade old new (Err fail) = new ≡ old

-- the pages that are refused are as few as the kind of object says
abbrev pub IsSmall : (ℕ → Type 0) → Result Outcome EditFail → Type 0
IsSmall may_refuse (Ok outcome) = Unit {0}
IsSmall may_refuse (Err (NoSpace pages)) = may_refuse pages
IsSmall may_refuse (Err Fault) = Unit {0}
IsSmall may_refuse (Err Memory) = Unit {0}

-- no more pages were written than a bound that the kind of object allows
pub record WritesWithin (allows : ℕ → Type 0) (old new : Meter) : Type 0 where
  pub pages : ℕ
  pub allowed : allows pages
  pub most : new.written ≤ old.written + pages

-- none was written, and no more were read than a bound that the kind of object allows
pub record ReadsWithin (allows : ℕ → Type 0) (old new : Meter) : Type 0 where
  pub pages : ℕ
  pub allowed : allows pages
  pub none : new.written ≡ old.written
  pub most : new.read ≤ old.read + pages

-- What an edit makes of bytes and pages, where the device tells. `answer` is what the kind of
-- object lays out on free pages.
pub record IsToldEdit (answer : Spaces → Answer ObjectSlot) (may_refuse : ℕ → Type 0)
    (may_write : ObjectSlot → ℕ → Type 0) (edit : Edit) (result : Result Outcome EditFail)
    (before after : Stage) (used now : Meter) : Type 0 where
  -- the working object is the edited one, and the committed one stays
  pub working : OnOk result (after.told.working ≡ edited edit before.told.working)
  pub committed : after.told.committed ≡ before.told.committed
  pub kept : after.told.slot.committed ≡ before.told.slot.committed
  pub unmade : IsUnmade before.told after.told result
  -- where the spaces are told, the pages are those that the kind's rule names, and the spaces
  -- move with the object
  pub granted : (views : List SpaceView) → AreTold before.rest views →
      length views ≡ count before.rest →
      IsEditAnswer (answer (free_sets views)) after.told.slot result
  pub spaces : (views : List SpaceView) → AreTold before.rest views →
      AreHome before.rest.frame views →
      HaveMoved before.form.numbers before.rest.frame views before.told.slot after.told.slot
      after.rest result
  pub small : IsSmall may_refuse result
  pub writes : WritesWithin (may_write after.told.slot) used now

-- What an edit does: `laid` is how the kind of object lays one out, `start` the space that is
-- looked at first, `used` and `now` are the port's counts. Memory is wanted only by an edit that
-- may take some.
pub record IsEdit (tells : Bool) (suits : Contents → Type 0) (laid : Lays)
    (may_refuse : Numbers → ObjectSlot → ℕ → Type 0)
    (may_write : Numbers → ObjectSlot → Edit → ObjectSlot → ℕ → Type 0) (start : ℕ) (edit : Edit)
    (result : Result Outcome EditFail) (before after : Stage) (used now : Meter) : Type 0 where
  pub outcome : IfOk result (λ outcome. outcome ≡ outcome_of edit before.form.working)
  pub form : OnOk result (IsEditedForm edit before.form after.form)
  pub unmade : IsUnmade before.form after.form result
  pub rest : KeepsFrame before.rest after.rest
  pub low : Part (IsExplained (count before.rest) result) before.trace after.trace
  pub port : IsUsed used now
  pub cause : HasCause used.faults now.faults (result ≡ Err Fault)
  pub memory : result ≡ Err Memory → EditMayTakeMemory edit
  pub told : IsTrue tells → IsToldEdit
      (λ free. laid before.form.numbers start free before.told.slot edit)
      (may_refuse before.form.numbers before.told.slot)
      (may_write before.form.numbers before.told.slot edit) edit result before after used now
  pub tied : IsTrue tells → AreTied suits after.form after.told

-- What the end of a transaction does to a body: it has this form and these contents, and the
-- spaces, each of which is entered with no look before it, move with it.
pub record IsBodyEnd (tells : Bool) (suits : Contents → Type 0) (end_form : Form)
    (end_told : Contents) (before after : Stage) : Type 0 where
  pub form : after.form ≡ end_form
  pub told : IsTrue tells → after.told ≡ end_told
  pub rest : KeepsFrame before.rest after.rest
  pub enters : Part AreEnters before.trace after.trace
  pub spaces : IsTrue tells → (views : List SpaceView) → AreTold before.rest views →
      AreHome before.rest.frame views →
      MovesTold before.form.numbers before.rest.frame views before.told.slot end_told.slot
      after.rest
  pub tied : IsTrue tells → AreTied suits after.form after.told

-- the n bytes from `at` on are bytes of an object of this length
pub record IsWithin (len : Option ℕ) (at n : ℕ) : Type 0 where
  pub bytes : ℕ
  pub present : len ≡ Some bytes
  pub range : at + n ≤ bytes

-- What a read of n bytes from `at` on does: it gives the bytes of the working object, and leaves
-- both versions as they are. A read of no byte wants no memory.
pub record IsBodyRead (tells : Bool) (suits : Contents → Type 0)
    (may_read : Numbers → ObjectSlot → ℕ → ℕ → Type 0) (at n : ℕ)
    (result : Result (List ℕ) LookFail) (form new_form : Form) (told new_told : Contents)
    (used now : Meter) : Type 0 where
  pub same : new_form ≡ form
  pub count : IfOk result (λ bytes. length bytes ≡ n)
  pub bytes : IsTrue tells → IfOk result (λ bytes. reply.Bytes bytes ≡ read_in at n told.working)
  pub kept : IsTrue tells → new_told ≡ told
  pub reads : IsTrue tells → ReadsWithin (may_read form.numbers told.slot n) used now
  pub port : IsUsed used now
  pub cause : HasCause used.faults now.faults (result ≡ Err look.Fault)
  pub memory : result ≡ Err look.Memory → 0 < n
  pub tied : IsTrue tells → AreTied suits new_form new_told
