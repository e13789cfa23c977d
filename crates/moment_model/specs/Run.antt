-- A run: how each answered line moves the moment. A list of events has the newest first, as in a
-- history.
use Rattle.std.specs.Prelude.{◌≡◌, ℕ, zero, suc, ◌+◌, ◌-◌, ◌*◌, ◌%◌, Bool, true, false, Option}
use Rattle.std.specs.Prelude.{Some, None, List, [], ◌∷◌, length, IsTrue, if◌then◌else◌}
use Rattle.geometry_model.specs.Numbers.{Numbers, objects, space_pages}
use Rattle.eos_ops.specs.declared.command.Command.{Command}
use Rattle.eos_ops.specs.declared.command.Command.TheVariants.{Begin, Commit, Abort, Status}
use Rattle.eos_ops.specs.declared.edit.Edit.{Edit}
use Rattle.eos_ops.specs.declared.reply.Reply.{Reply}
use Rattle.eos_ops.specs.declared.reply.Reply.TheVariants as reply
use Rattle.eos_ops.specs.Objects.{object_of, edit_of}
use Rattle.history.specs.Event.{Event}
use Rattle.history.specs.Holding.{holds}
use Rattle.layout_model.specs.Grants.{Spaces, Answer}
use Rattle.layout_model.specs.Grants.Answer.{Got, Refused}
use Rattle.moment_model.specs.Moment.{ObjectSlot, Moment, object_slot, with_object_slot, free_of}
use Rattle.moment_model.specs.Moment.{locked_of, count_pages, absent_slot}
use Rattle.moment_model.specs.Version.{version_bytes}
use Rattle.moment_model.specs.Edit.{accepts, settled, undone}

-- the space at which the grants of a session start
abbrev pub start_space : Numbers → ℕ → ℕ
start_space n session = (session - 1) % n.spaces

-- a moment whose slots change where a test holds of the object's number; the first is number `from`
abbrev pub changed_where : (ℕ → Bool) → (ObjectSlot → ObjectSlot) → ℕ → Moment → Moment
changed_where test change from [] = []
changed_where test change from (slot ∷ rest) =
    (if test from then change slot else slot) ∷ changed_where test change (suc from) rest

-- the moment after session s commits, or aborts, what it holds after these events
abbrev pub committed_by : ℕ → List Event → Moment → Moment
committed_by s past moment = changed_where (λ o. holds s o past) settled 0 moment

abbrev pub aborted_by : ℕ → List Event → Moment → Moment
aborted_by s past moment = changed_where (λ o. holds s o past) undone 0 moment

-- How a kind of body lays out an edit: its object's slot after it, and the pages that are free
-- then; or the pages that no space had a place for. It takes the store's numbers, the space at
-- which the grants start, the free pages, the slot before, and the edit.
abbrev pub Lays : Type 0
Lays = Numbers → ℕ → Spaces → ObjectSlot → Edit → Answer ObjectSlot

-- what session s is answered to an edit of object o, as these bodies lay it out: the object's
-- slot after it, or a refusal
abbrev pub answer_to : Lays → Numbers → Moment → ℕ → ℕ → Edit → Answer ObjectSlot
answer_to laid n moment s o edit = laid n (start_space n s) (free_of n moment)
    (object_slot moment o) edit

-- the slot of an answer. A refusal would leave an absent object: no run comes to it, since an
-- edit that is answered `ok` was granted what it asks for.
abbrev pub slot_got : Answer ObjectSlot → ObjectSlot
slot_got (Got slot left) = slot
slot_got (Refused pages) = absent_slot

abbrev pub IsGot : Answer ObjectSlot → Type 0
IsGot (Got slot left) = Unit {0}
IsGot (Refused pages) = ⊥

abbrev pub IsRefused : ℕ → Answer ObjectSlot → Type 0
IsRefused count (Got slot left) = ⊥
IsRefused count (Refused pages) = pages ≡ count

-- the moment after an edit that was answered `ok`
abbrev pub after_edit : Lays → Numbers → Moment → ℕ → Option ℕ → Option Edit → Moment
after_edit laid n moment s None edit = moment
after_edit laid n moment s (Some o) None = moment
after_edit laid n moment s (Some o) (Some edit) =
    with_object_slot moment o (slot_got (answer_to laid n moment s o edit))

-- the moment after `ok` to a command
abbrev pub after_ok : Lays → Numbers → List Event → Moment → ℕ → Command → Moment
after_ok laid n past moment s Commit = committed_by s past moment
after_ok laid n past moment s Abort = aborted_by s past moment
after_ok laid n past moment s Begin = moment
after_ok laid n past moment s Status = moment
after_ok laid n past moment s command =
    after_edit laid n moment s (object_of command) (edit_of command)

abbrev pub is_ok_reply : Reply → Bool
is_ok_reply reply.Ok = true
is_ok_reply other = false

-- the moment after an answered line: every reply but `ok` leaves it as it was
unfoldable pub moment_after : Lays → Numbers → List Event → Moment → Event → Moment
moment_after laid n past moment e =
    if is_ok_reply e.reply then after_ok laid n past moment e.session e.command else moment

-- Is the edit one that object o doesn't refuse, as its working version is in the moment? That
-- goes by the object's length alone, whatever the kind of body.
abbrev pub is_accepted : Moment → ℕ → Edit → Bool
is_accepted moment o edit = accepts (version_bytes (object_slot moment o).working) edit

-- an edit that is answered `ok` was granted what it asks for, and the object doesn't refuse it
abbrev pub OkToEdit : Lays → Numbers → Moment → ℕ → Option ℕ → Option Edit → Type 0
OkToEdit laid n moment s None edit = Unit {0}
OkToEdit laid n moment s (Some o) None = Unit {0}
OkToEdit laid n moment s (Some o) (Some edit) =
    IsTrue (is_accepted moment o edit) × IsGot (answer_to laid n moment s o edit)

-- an edit that is answered `nospace` was refused these pages, and the object doesn't refuse it
abbrev pub NoSpaceToEdit : Lays → Numbers → Moment → ℕ → ℕ → Option ℕ → Option Edit → Type 0
NoSpaceToEdit laid n moment s pages None edit = ⊥
NoSpaceToEdit laid n moment s pages (Some o) None = ⊥
NoSpaceToEdit laid n moment s pages (Some o) (Some edit) =
    IsTrue (is_accepted moment o edit) × IsRefused pages (answer_to laid n moment s o edit)

-- the counts that `status` is answered: free pages, locked ones, and the rest
pub record AreCounts (n : Numbers) (moment : Moment) (free locked held : ℕ) : Type 0 where
  pub free_pages : free ≡ count_pages (free_of n moment)
  pub locked_pages : locked ≡ count_pages (locked_of n moment)
  pub all_pages : free + locked + held ≡ n.spaces * space_pages n

-- what the reply says of the moment
abbrev pub Agrees : Lays → Numbers → Moment → ℕ → Command → Reply → Type 0
Agrees laid n moment s command reply.Ok =
    OkToEdit laid n moment s (object_of command) (edit_of command)
Agrees laid n moment s command (reply.NoSpace pages) =
    NoSpaceToEdit laid n moment s pages (object_of command) (edit_of command)
Agrees laid n moment s command (reply.Status free locked held) = AreCounts n moment free locked held
Agrees laid n moment s command other = Unit {0}

-- the moment after these events, one after the other
abbrev pub moment_of : Lays → Numbers → Moment → List Event → Moment
moment_of laid n first [] = first
moment_of laid n first (e ∷ past) = moment_after laid n past (moment_of laid n first past) e

-- each event agrees with the moment in which it comes
abbrev pub AllAgree : Lays → Numbers → Moment → List Event → Type 0
AllAgree laid n first [] = Unit {0}
AllAgree laid n first (e ∷ past) =
    AllAgree laid n first past × Agrees laid n (moment_of laid n first past) e.session e.command
    e.reply

-- the moment after sessions 1 to `sessions` abort what they hold, in that order
abbrev pub all_aborted : ℕ → List Event → Moment → Moment
all_aborted zero past moment = moment
all_aborted (suc sessions) past moment =
    aborted_by (suc sessions) past (all_aborted sessions past moment)

-- A run of bodies that lay out edits so: the first moment has a slot for each object, the events
-- move it, each agrees, and at the end what is still open is aborted.
pub record Run (laid : Lays) (n : Numbers) (sessions : ℕ) (first : Moment) (events : List Event)
    (last : Moment) : Type 0 where
  pub slots : length first ≡ objects n
  pub agree : AllAgree laid n first events
  pub ends : last ≡ all_aborted sessions events (moment_of laid n first events)
