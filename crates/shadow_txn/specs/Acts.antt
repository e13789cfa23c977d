-- What a transaction did to an object that it holds.
use Rattle.std.specs.Prelude.{◌≡◌, ℕ, List, [], ◌∷◌, Bool, true, false, Option, IfSome}
use Rattle.eos_ops.specs.declared.act.Act.{Act}
use Rattle.eos_ops.specs.declared.command.Command.{Command}
use Rattle.eos_ops.specs.declared.command.Command.TheVariants as command
use Rattle.eos_ops.specs.declared.edit.Edit.{Edit}
use Rattle.eos_ops.specs.declared.edit.Edit.TheVariants.{Create, Destroy, Append, Insert, Delete}
use Rattle.eos_ops.specs.declared.edit.Edit.TheVariants.{Replace}
use Rattle.eos_ops.specs.declared.end.End.{End}
use Rattle.eos_ops.specs.declared.payload.Payload.TheVariants.{Given}
use Rattle.eos_ops.specs.declared.plain.Plain.{Plain}
use Rattle.eos_ops.specs.declared.reply.Reply.{Reply}
use Rattle.eos_ops.specs.declared.reply.Reply.TheVariants as reply
use Rattle.eos_ops.specs.Ends.{last_stamp_of}
use Rattle.history.specs.Event.{Deed, Opens, Does, Takes, Closes, Nothing, deed}
use Rattle.history.specs.Serial.{RightAt, replayed}
use Rattle.shadow_txn.specs.declared.held.Held.{Held}
use Rattle.shadow_txn.specs.declared.plain_object.PlainObject.{PlainObject}
use Rattle.shadow_txn.specs.Held.{acts_in}
use Rattle.shadow_txn.specs.Objects.{working_of}

-- the command on object o that makes an edit, with its bytes
abbrev pub edit_command : ℕ → Edit → Command
edit_command o (Create t) = command.Create o t
edit_command o Destroy = command.Destroy o
edit_command o (Append p) = command.Append o (Given p)
edit_command o (Insert at p) = command.Insert o at (Given p)
edit_command o (Delete at n) = command.Delete o at n
edit_command o (Replace at p) = command.Replace o at (Given p)

-- the act that a deed is, if it is one
abbrev pub act_of : Deed → List Act
act_of Opens = []
act_of (Does o act) = act ∷ []
act_of (Takes o) = []
act_of (Closes committed) = []
act_of Nothing = []

-- the reply is one that the object itself gives
abbrev pub is_objects_own : Reply → Bool
is_objects_own reply.Ok = true
is_objects_own (reply.Length n) = true
is_objects_own (reply.Bytes x) = true
is_objects_own (reply.Range n) = true
is_objects_own reply.Exists = true
is_objects_own reply.Missing = true
is_objects_own r = false

-- What is noted of a command and its reply, where the annals keep acts: the act, if the reply is
-- the object's own.
abbrev pub noted : Bool → Command → Reply → List Act
noted false c r = []
noted true c r = act_of (deed c r)

-- The fact P holds. Where acts are kept, want of memory for the act may take its place.
abbrev pub OrMemory : Bool → Type 0 → Type 0 → Type 0
OrMemory false IsMemory P = P
OrMemory true IsMemory P = (IsMemory → ⊥) → P

-- where acts are kept, none is on object o
abbrev pub HasNoActs : {T : Type 0} → Bool → ℕ → List (Held T) → Type 0
HasNoActs false o held = Unit {0}
HasNoActs true o held = acts_in o held ≡ []

-- Where acts are kept, they lead from the one version to the other, and each has the reply that
-- it gets there.
abbrev pub Lead : Bool → Plain → List Act → Plain → Type 0
Lead false committed acts working = acts ≡ []
Lead true committed acts working = RightAt committed acts × (replayed committed acts ≡ working)

-- A held object with the acts on it: they lead to its working version, and its last stamp is that
-- of its last end.
pub record IsLed {H : Type 0} (tells : Bool) (told : H → Option (List End)) (last : H → ℕ)
    (x : PlainObject H) (acts : List Act) : Type 0 where
  pub lead : Lead tells x.committed acts (working_of x)
  pub ages : IfSome (told x.annals) (λ ends. last x.annals ≡ last_stamp_of ends)
