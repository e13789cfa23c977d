-- What a command on an object makes of the object, of its session, and of the shelf.
use Rattle.std.specs.Prelude.{◌≡◌, ◌≢◌, ◌⊎◌, ℕ, Bool, true, false, IsTrue, List, length, Option}
use Rattle.std.specs.Prelude.{Some, None, is_some, IfSome, if◌then◌else◌}
use Rattle.eos_ops.specs.declared.command.Command.{Command}
use Rattle.eos_ops.specs.declared.command.Command.TheVariants.{Begin, Create, Destroy, Length, Read}
use Rattle.eos_ops.specs.declared.command.Command.TheVariants.{Append, Insert, Delete, Replace}
use Rattle.eos_ops.specs.declared.command.Command.TheVariants.{Commit, Abort, Status}
use Rattle.eos_ops.specs.declared.edit.Edit.{Edit}
use Rattle.eos_ops.specs.declared.edit.Edit.TheVariants as edit
use Rattle.eos_ops.specs.declared.reply.Reply.{Reply}
use Rattle.eos_ops.specs.declared.reply.Reply.TheVariants as reply
use Rattle.eos_ops.specs.Objects.{reply_in, edit_of}
use Rattle.eos_ops.specs.Payloads.{payload_bytes}
use Rattle.fault_count.specs.Counts.{Meter}
use Rattle.geometry_model.specs.Numbers.{Numbers}
use Rattle.moment_model.specs.Moment.{ObjectSlot}
use Rattle.moment_model.specs.Run.{Lays}
use Rattle.object_body.specs.Form.{Contents, AreTied, NamesThreshold}
use Rattle.object_body.specs.Memory.{EditMayTakeMemory}
use Rattle.object_body.specs.Places.{IsReady}
use Rattle.shadow_txn.specs.declared.held.Held.{Held}
use Rattle.shadow_txn.specs.Held.{held_object, with_object}
use Rattle.shadow_txn.specs.Transaction.{Transaction, with_end, end_stamp, holding}
use Rattle.superdirectory.specs.Solo.{SoloView, rest_of}
use Rattle.body_txn.specs.Calls.{MakesEdit, MakesRead}
use Rattle.body_txn.specs.Ending.{Standing, staged, end_form, end_contents}
use Rattle.body_txn.specs.Replies.{IsOwnRight, reply_by_length}
use Rattle.body_world.specs.Session.{Shown, Seen, at_home, seen_by, refused_by}
use Rattle.body_world.specs.Session.{IsSoundSession}

-- the spaces and the port that a command uses
pub record Works : Type 0 where
  pub spaces : Standing
  pub meter : Meter

-- The session is as sound as it was, sees just those objects that it saw, and is the same session.
pub record KeepsSession {T : Type 0} (show : T → Shown) (shelf : List (Option T))
    (txn : Transaction T) (shelf' : List (Option T)) (txn' : Transaction T) : Type 0 where
  pub session : txn'.session ≡ txn.session
  pub size : length shelf' ≡ length shelf
  pub sides : (o : ℕ) → is_some (seen_by show shelf' txn' o) ≡ is_some (seen_by show shelf txn o)
  pub sound : IsSoundSession shelf' txn'

abbrev pub is_memory : Reply → Bool
is_memory reply.Memory = true
is_memory r = false

-- who holds an object after a command of session s on it: s, but after want of memory whoever held
-- it before
abbrev pub holder_after : ℕ → Reply → Option ℕ → Option ℕ
holder_after s r was = if is_memory r then was else Some s

-- Where bytes are told, the object's lengths are those of its bytes, if it was looked at, and a
-- reply that is the object's own is the right one.
pub record FitsObject (tells : Bool) (suits : Contents → Type 0) (c : Command) (r : Reply)
    (x : Shown) : Type 0 where
  pub tied : IsTrue tells → (r ≡ reply.Memory) ⊎ AreTied suits x.form x.told
  pub right : IsTrue tells → IsOwnRight r (reply_in c x.told.working)

-- The object became what the command makes of what the session saw, with this reply, the session
-- holds it from then on unless there was no memory, and it sees all else as before.
pub record IsServed {T : Type 0} (tells : Bool) (suits : Contents → Type 0) (show : T → Shown)
    (Makes : Shown → Shown → Type 0) (c : Command) (o : ℕ) (r : Reply) (shelf : List (Option T))
    (txn : Transaction T) (shelf' : List (Option T)) (txn' : Transaction T) : Type 0 where
  pub was : Seen
  pub now : Shown
  pub seen : seen_by show shelf txn o ≡ Some was
  pub makes : Makes was.object now
  pub fits : FitsObject tells suits c r was.object
  pub left : seen_by show shelf' txn' o
      ≡ Some (record { holder = holder_after txn.session r was.holder; object = now })
  pub others : (p : ℕ) → p ≢ o → seen_by show shelf' txn' p ≡ seen_by show shelf txn p
  pub kept : KeepsSession show shelf txn shelf' txn'
  pub is_open : txn'.is_open ≡ txn.is_open
  pub stamp : txn'.stamp ≡ txn.stamp

-- An answer is the first refusal, and then nothing has changed; or it is what the object makes of
-- the command.
abbrev pub IsAnswer : {T : Type 0} → Bool → (Contents → Type 0) → (T → Shown)
    → (Shown → Shown → Works → Works → Type 0) → Command → ℕ → Reply → List (Option T)
    → Transaction T → Works → List (Option T) → Transaction T → Works → Type 0
IsAnswer tells suits show Makes c o r shelf txn before shelf' txn' after =
    ((refused_by show shelf txn o ≡ Some r) × (shelf' ≡ shelf) × (txn' ≡ txn) × (after ≡ before))
    ⊎ ((refused_by show shelf txn o ≡ None)
    × IsServed tells suits show (λ x y. Makes x y before after) c o r shelf txn shelf' txn')

-- An edit of an object, as its body says it; or there was no memory for the bytes that it brings,
-- and nothing was touched.
abbrev pub MakesEdited : Bool → (Contents → Type 0) → Lays → (Numbers → ObjectSlot → ℕ → Type 0)
    → (Numbers → ObjectSlot → Edit → ObjectSlot → ℕ → Type 0) → ℕ → Edit → Reply → Shown → Shown
    → Works → Works → Type 0
MakesEdited tells suits laid may_refuse may_write start edit r x y before after =
    ((r ≡ reply.Memory) × EditMayTakeMemory edit × (y ≡ x) × (after ≡ before))
    ⊎ ((y.stamp ≡ x.stamp) × MakesEdit tells suits laid may_refuse may_write start edit r
    (staged x.form x.told before.spaces) (staged y.form y.told after.spaces) before.meter
    after.meter)

-- What a command makes of an object, as its body says it: an edit, a read, or a look at its length.
abbrev pub MakesCommand : Bool → (Contents → Type 0) → Lays → (Numbers → ObjectSlot → ℕ → Type 0)
    → (Numbers → ObjectSlot → Edit → ObjectSlot → ℕ → Type 0)
    → (Numbers → ObjectSlot → ℕ → ℕ → Type 0) → ℕ → Command → Reply → Shown → Shown
    → Works → Works → Type 0
MakesCommand tells suits laid may_refuse may_write may_read start (Length o) r x y before after =
    (r ≡ reply_by_length x.form.working) × (y ≡ x) × (after ≡ before)
MakesCommand tells suits laid may_refuse may_write may_read start (Read o at n) r x y before after =
    (y.stamp ≡ x.stamp) × (after.spaces ≡ before.spaces)
    × MakesRead tells suits may_read false at n r x.form y.form x.told y.told before.meter
    after.meter
MakesCommand tells suits laid may_refuse may_write may_read start (Create o t) r x y before after =
    MakesEdited tells suits laid may_refuse may_write start (edit.Create t) r x y before after
MakesCommand tells suits laid may_refuse may_write may_read start (Destroy o) r x y before after =
    MakesEdited tells suits laid may_refuse may_write start edit.Destroy r x y before after
MakesCommand tells suits laid may_refuse may_write may_read start (Append o p) r x y before after =
    MakesEdited tells suits laid may_refuse may_write start (edit.Append (payload_bytes p)) r x y
    before after
MakesCommand tells suits laid may_refuse may_write may_read start (Insert o at p) r x y before after
    = MakesEdited tells suits laid may_refuse may_write start (edit.Insert at (payload_bytes p)) r x
    y before after
MakesCommand tells suits laid may_refuse may_write may_read start (Delete o at n) r x y before after
    = MakesEdited tells suits laid may_refuse may_write start (edit.Delete at n) r x y before after
MakesCommand tells suits laid may_refuse may_write may_read start (Replace o at p) r x y before
    after = MakesEdited tells suits laid may_refuse may_write start
    (edit.Replace at (payload_bytes p)) r x y before after
MakesCommand tells suits laid may_refuse may_write may_read start Begin r x y before after = ⊥
MakesCommand tells suits laid may_refuse may_write may_read start Commit r x y before after = ⊥
MakesCommand tells suits laid may_refuse may_write may_read start Abort r x y before after = ⊥
MakesCommand tells suits laid may_refuse may_write may_read start Status r x y before after = ⊥

-- an object that the session held and that is let go: its body has this end, and its last stamp is
-- the end's
pub record IsLetGo (tells : Bool) (committed : Bool) (stamp : ℕ) (x y : Shown) : Type 0 where
  pub form : y.form ≡ end_form committed x.form
  pub told : IsTrue tells → y.told ≡ end_contents committed x.told
  pub at : y.stamp ≡ stamp

-- the object that was held got its end, and one that was on the shelf is as before
abbrev pub IsLeftBy : Bool → Bool → ℕ → Option ℕ → Shown → Shown → Type 0
IsLeftBy tells committed stamp None x y = y ≡ x
IsLeftBy tells committed stamp (Some s) x y = IsLetGo tells committed stamp x y

-- what the session held is on the shelf, with its end, and what was there is there as before
abbrev pub IsLeft : Bool → Bool → ℕ → Option Seen → Option Seen → Type 0
IsLeft tells committed stamp None after = after ≡ None
IsLeft tells committed stamp (Some seen) after =
    (y : Shown) × (after ≡ Some (at_home y))
    × IsLeftBy tells committed stamp seen.holder seen.object y

-- A transaction has ended: what the session held is let go, with the stamp of the end, and it sees
-- all else as before.
pub record IsEnded {T : Type 0} (tells : Bool) (show : T → Shown) (last : T → ℕ) (committed : Bool)
    (shelf : List (Option T)) (txn : Transaction T) (shelf' : List (Option T))
    (txn' : Transaction T) : Type 0 where
  pub kept : KeepsSession show shelf txn shelf' txn'
  pub closed : txn' ≡ with_end txn (end_stamp last txn)
  pub seen : (o : ℕ) → IsLeft tells committed (end_stamp last txn) (seen_by show shelf txn o)
      (seen_by show shelf' txn' o)

-- Object o in the hands of a transaction became what the command makes of it, with this reply, and
-- nothing else has changed there.
pub record IsWorked {T : Type 0} (tells : Bool) (suits : Contents → Type 0) (show : T → Shown)
    (Makes : Shown → Shown → Type 0) (c : Command) (o : ℕ) (r : Reply)
    (old new : Transaction T) : Type 0 where
  pub was : T
  pub now : T
  pub held : held_object o old.held ≡ Some was
  pub makes : Makes (show was) (show now)
  pub fits : FitsObject tells suits c r (show was)
  pub txn : new ≡ holding old (with_object o now old.held)

-- where a command names a threshold, it is one that may be named
abbrev pub NamesThresholdIn : Command → Type 0
NamesThresholdIn c = IfSome (edit_of c) NamesThreshold

-- the spaces of one thread and a port
abbrev pub works_of : SoloView → Meter → Works
works_of spaces meter = record {
  spaces = record { rest = rest_of spaces; trace = None };
  meter = meter;
}

-- the port and the spaces are those of the store of a held object
abbrev pub IsInStore : {T : Type 0} → (T → Shown) → ℕ → List (Held T) → Works → Type 0
IsInStore show o held works = IfSome (held_object o held)
    (λ x. (works.meter.page ≡ (show x).form.numbers.page)
    × IsReady (show x).form.numbers works.spaces.rest)

-- what is on the shelf and what the session holds is of one store, and so are the spaces and the
-- port
pub record IsOfStore {T : Type 0} (show : T → Shown) (n : Numbers) (shelf : List (Option T))
    (txn : Transaction T) (works : Works) : Type 0 where
  pub objects : (o : ℕ) (seen : Seen) → seen_by show shelf txn o ≡ Some seen →
      seen.object.form.numbers ≡ n
  pub ready : IsReady n works.spaces.rest
  pub sized : works.meter.page ≡ n.page
