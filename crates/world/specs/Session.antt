-- One session and the shelf: what it sees of an object, and why it can't have one.
use Rattle.std.specs.Prelude.{◌≡◌, ℕ, ◌≤◌, ◌==◌, nat_le, List, [], length, false, Option, Some}
use Rattle.std.specs.Prelude.{None, Result, Ok, Err, is_some, slice_get, if◌then◌else◌}
use Rattle.eos_ops.specs.declared.limits.TheConstants.{MAX_HELD, LAST_STAMP}
use Rattle.eos_ops.specs.declared.plain.Plain.{Plain}
use Rattle.eos_ops.specs.declared.reply.Reply.{Reply}
use Rattle.eos_ops.specs.declared.reply.Reply.TheVariants.{NoObject, Full, Busy, Worn, Memory}
use Rattle.eos_ops.specs.declared.reply.Reply.TheVariants as reply
use Rattle.machine.specs.Machine.{Slot}
use Rattle.shadow_txn.specs.declared.fails.BeginFail.{BeginFail}
use Rattle.shadow_txn.specs.declared.fails.BeginFail.TheVariants as begin
use Rattle.shadow_txn.specs.declared.fails.HoldFail.{HoldFail}
use Rattle.shadow_txn.specs.declared.fails.HoldFail.TheVariants as fail
use Rattle.shadow_txn.specs.declared.plain_object.PlainObject.{PlainObject}
use Rattle.shadow_txn.specs.Held.{held_object, with_object, AreDistinct}
use Rattle.shadow_txn.specs.Objects.{working_of}
use Rattle.shadow_txn.specs.Transaction.{Transaction, holding}

-- an object, whose annals are the stamp of its last end
abbrev pub Object : Type 0
Object = PlainObject ℕ

abbrev pub Session : Type 0
Session = Transaction (PlainObject ℕ)

-- an object on the shelf: nobody holds it, and its versions are equal
abbrev pub home_slot : Object → Slot
home_slot x = record {
  committed = x.committed;
  working = x.committed;
  holder = None;
  stamp =
      x.annals;
}

-- an object that session s holds
abbrev pub held_slot : ℕ → Object → Slot
held_slot s x = record {
  committed = x.committed;
  working = working_of x;
  holder = Some s;
  stamp =
      x.annals;
}

-- what stands at a place of the shelf, if anything
abbrev pub home_seen : Option (Option Object) → Option Slot
home_seen None = None
home_seen (Some None) = None
home_seen (Some (Some x)) = Some (home_slot x)

abbrev pub own_seen : ℕ → Option Object → Option Slot → Option Slot
own_seen s None home = home
own_seen s (Some x) home = Some (held_slot s x)

-- Object o as a session sees it: in its own hands, or on the shelf. An object that another
-- session holds it doesn't see.
abbrev pub seen_by : List (Option Object) → Session → ℕ → Option Slot
seen_by shelf txn o = own_seen txn.session (held_object o txn.held) (home_seen (slice_get shelf o))

-- The session's transaction is over the objects of the shelf, and holds few, each once, and none
-- of those at home. It holds nothing where no transaction is open.
pub record IsSoundSession (shelf : List (Option Object)) (txn : Session) : Type 0 where
  pub objects : txn.objects ≡ length shelf
  pub few : length txn.held ≤ MAX_HELD
  pub distinct : AreDistinct txn.held
  pub idle : txn.is_open ≡ false → txn.held ≡ []
  pub out : (o : ℕ) (x : Object) → held_object o txn.held ≡ Some x → slice_get shelf o ≡ Some None

-- why an object can't be taken from its place on the shelf
abbrev pub place_refused : Option (Option Object) → Option Reply
place_refused None = Some NoObject
place_refused (Some None) = Some Busy
place_refused (Some (Some x)) = if x.annals == LAST_STAMP then Some Worn else None

-- why a session with a transaction open can't have object o; one that it holds meets none of these
abbrev pub refused_by : List (Option Object) → Session → ℕ → Option Reply
refused_by shelf txn o =
    if is_some (held_object o txn.held) then None
    else if nat_le (length shelf) o then Some NoObject
    else if nat_le MAX_HELD (length txn.held) then Some Full
    else place_refused (slice_get shelf o)

-- The working version of object o, which the session holds, is this one now; nothing else has
-- changed.
pub record IsWorked (after : Plain) (o : ℕ) (old new : Session) : Type 0 where
  pub was : Object
  pub now : Object
  pub held : held_object o old.held ≡ Some was
  pub committed : now.committed ≡ was.committed
  pub working : working_of now ≡ after
  pub annals : now.annals ≡ was.annals
  pub txn : new ≡ holding old (with_object o now old.held)

-- a refused hold as a reply
abbrev pub hold_reply : HoldFail → Reply
hold_reply fail.NoObject = NoObject
hold_reply fail.Full = Full
hold_reply fail.Busy = Busy
hold_reply fail.Worn = Worn
hold_reply fail.Memory = Memory

-- what became of a begin, as a reply
abbrev pub begin_reply : {U : Type 0} → Result U BeginFail → Reply
begin_reply (Ok done) = reply.Ok
begin_reply (Err begin.Active) = reply.Active
begin_reply (Err begin.Worn) = reply.Worn
