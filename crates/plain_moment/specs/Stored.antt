-- A plain store as one value, and what a command makes of it: a step of the machine, and a move
-- of the moment.
use Rattle.std.specs.Prelude.{◌≡◌, ℕ, List, map, Bool, true, false, Option, Some, None, length}
use Rattle.std.specs.Prelude.{slice_set, IsTrue, if◌then◌else◌}
use Rattle.eos_ops.specs.declared.command.Command.{Command}
use Rattle.eos_ops.specs.declared.command.Command.TheVariants.{Length}
use Rattle.eos_ops.specs.declared.limits.TheConstants.{SESSIONS}
use Rattle.eos_ops.specs.declared.reply.Reply.{Reply}
use Rattle.eos_ops.specs.declared.reply.Reply.TheVariants as reply
use Rattle.geometry_model.specs.Numbers.{Numbers}
use Rattle.history.specs.Event.{Deed, Opens, Does, Takes, Closes, Nothing, deed}
use Rattle.machine.specs.Machine.{Machine, Slot, is_holder}
use Rattle.machine.specs.Next.{next}
use Rattle.machine.specs.Replies.{IsStep, refused}
use Rattle.moment_model.specs.Edit.{edited_slot}
use Rattle.moment_model.specs.Moment.{Moment}
use Rattle.store_model.specs.Store.{Store, IsToldStep}

-- the numbers of a store, the bytes of its objects with the sessions, who holds each object, and
-- where the objects stand
pub record Stored : Type 0 where
  pub numbers : Numbers
  pub machine : Machine
  pub holders : List (Option ℕ)
  pub moment : Moment

abbrev pub holder_in : Slot → Option ℕ
holder_in slot = slot.holder

-- the holders are those of the machine
pub record HoldersAgree (w : Stored) : Type 0 where
  pub sessions : length w.machine.seats ≡ SESSIONS
  pub holders : w.holders ≡ map holder_in w.machine.slots

-- without its list of holders
abbrev pub store_of : Stored → Store
store_of w = record { numbers = w.numbers; machine = w.machine; moment = w.moment }

-- a reply that is neither a fault nor want of memory
abbrev pub is_unfailing : Reply → Bool
is_unfailing reply.Fault = false
is_unfailing reply.Memory = false
is_unfailing r = true

-- One step: a told step of a store of trees, whose reply is no fault and no want of memory.
pub record IsStoreStep (w : Stored) (s : ℕ) (c : Command) (r : Reply) (w' : Stored) : Type 0 where
  pub told : IsToldStep edited_slot (store_of w) s c r (store_of w')
  pub unfailing : IsTrue (is_unfailing r)

-- the reply of an object that is at hand, or of one that its space or its device failed
abbrev pub is_taken : Reply → Bool
is_taken reply.Ok = true
is_taken (reply.Length n) = true
is_taken (reply.Bytes x) = true
is_taken (reply.Range n) = true
is_taken reply.Exists = true
is_taken reply.Missing = true
is_taken (reply.NoSpace n) = true
is_taken reply.Fault = true
is_taken reply.Busy = false
is_taken reply.Full = false
is_taken reply.NoObject = false
is_taken reply.Memory = false
is_taken reply.Idle = false
is_taken reply.Active = false
is_taken reply.TooLong = false
is_taken reply.Worn = false
is_taken (reply.Status f l h) = false
is_taken reply.Again = false

-- a reply that says nothing of the pages, the device or the memory
abbrev pub is_bare : Reply → Bool
is_bare (reply.NoSpace n) = false
is_bare reply.Fault = false
is_bare reply.Memory = false
is_bare (reply.Status f l h) = false
is_bare r = true

-- who holds an object after the transaction of a session ends
abbrev pub let_go : ℕ → Option ℕ → Option ℕ
let_go s holder = if is_holder s holder then None else holder

-- the holders after a deed
abbrev pub holders_after : ℕ → Deed → List (Option ℕ) → List (Option ℕ)
holders_after s Opens holders = holders
holders_after s (Does o act) holders = slice_set holders o (Some s)
holders_after s (Takes o) holders = slice_set holders o (Some s)
holders_after s (Closes committed) holders = map (let_go s) holders
holders_after s Nothing holders = holders

-- The object of a command was asked: the machine's step and the holders after it, and a reply
-- that says nothing of the pages. All else is as before.
pub record HasServedPlain (w : Stored) (s : ℕ) (c : Command) (r : Reply)
    (w' : Stored) : Type 0 where
  pub step : IsStep w.machine s c r w'.machine
  pub bare : IsTrue (is_bare r)
  pub holders : w'.holders ≡ holders_after s (deed c r) w.holders
  pub numbers : w'.numbers ≡ w.numbers
  pub moment : w'.moment ≡ w.moment

-- the store in which session s has taken object o
abbrev pub taken_store : Stored → ℕ → ℕ → Stored
taken_store w s o = record w {
  machine = next w.machine s (Takes o);
  holders =
      slice_set w.holders o (Some s);
}

-- Session s was given object o, unless a refusal stands before it. All else is as before.
abbrev pub IsTaking : Stored → ℕ → ℕ → Option Reply → Stored → Type 0
IsTaking w s o None w' =
    (refused w.machine s (Length o) ≡ None)
    × (w' ≡ taken_store w s o)
IsTaking w s o (Some r) w' = (refused w.machine s (Length o) ≡ Some r) × (w' ≡ w)

-- the reply of an object that is only looked at
abbrev pub is_look : Reply → Bool
is_look (reply.Length n) = true
is_look reply.Missing = true
is_look r = false

abbrev pub is_memory : Reply → Bool
is_memory reply.Memory = true
is_memory r = false
